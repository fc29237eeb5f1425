-- No element of a picture has an attribute twice.
use Rattle.std.proofs.Common.{◌≡◌, ℕ, zero, suc, ◌+◌, ◌/◌, ◌==◌, ◌++◌, Bool, true, ◌&&◌, Option, Some, None, List, [], ◌∷◌, refl, take, length}
use Rattle.std.specs.Prelude.{codes}
use Rattle.std.proofs.lemmas.Bool.{cond_both}
use Rattle.fx_model.specs.declared.source.Source.{Source}
use Rattle.fx_model.specs.Report.{FiberReportView}
use Rattle.fx_order.specs.declared.occurrence.Occurrence.{Occurrence}
use Rattle.fx_report.specs.declared.blocked.Blocked.{Blocked}
use Rattle.fx_picture.specs.Handles.{Named}
use Rattle.fx_svg.specs.declared.tag.Tag.TheVariants as tag
use Rattle.fx_svg.specs.Content.{Content, nothing, both}
use Rattle.fx_svg.specs.WellFormed.{has_distinct_keys, is_well_formed}
use Rattle.fx_svg.proofs.WellFormedTexts.{well_formed}
use Rattle.fx_picture.specs.declared.bar.Bar.{Bar}
use Rattle.fx_picture.specs.declared.cause.Cause.{Cause}
use Rattle.fx_picture.specs.declared.drawn.Drawn.{Drawn}
use Rattle.fx_picture.specs.declared.stood.Stood.{Stood}
use Rattle.fx_picture.specs.declared.layout.TheConstants.{AGAIN}
use Rattle.fx_picture.specs.declared.stood.EventAt.{EventAt}
use Rattle.fx_picture.specs.Stood.{stood_at, told_cause, told_held}
use Rattle.fx_picture.specs.Causes.{cause_of}
use Rattle.fx_picture.specs.Bars.{life_at, bar_at, mask_at, closing_row}
use Rattle.fx_picture.specs.Folds.{in_row, sheet_of}
use Rattle.fx_picture.specs.Visits.{queue_at, count_at}
use Rattle.fx_picture.specs.Labels.{fiber_words, wait_of}
use Rattle.fx_picture.specs.Legend.{legend}
use Rattle.fx_picture.specs.Picture.{names_again, foot, lanes_from, queue_lanes_from, ends_in, bar_to, bar_of, bars_from}
use Rattle.fx_picture.specs.Picture.{held_label, visit_for, all_times, visits_of, visits_in}
use Rattle.fx_picture.specs.Picture.{arrow_for, arrows_to, arrows_from, mark_of, marks_in, head, size, ground_of, figures_of, picture_text}

all_true : (x y : Bool) → x ≡ true → y ≡ true → x && y ≡ true
all_true x y p q = rw (p, q)

again_is : (lane : ℕ) (ws : List ℕ) (bands : ℕ) → has_distinct_keys (names_again lane ws bands) ≡ true
again_is lane ws zero = refl
again_is lane ws (suc band) = all_true _ _ (again_is lane ws band) refl

foot_is : (names : List (List ℕ)) (rows lane : ℕ) (x : FiberReportView) (source : Option Source) → has_distinct_keys (foot names rows lane x source) ≡ true
foot_is names rows lane x None = refl
foot_is names rows lane x (Some source) = refl

lanes : (names : List (List ℕ)) (rows : ℕ) (handles : List Named) (blocked : List Blocked) (lane : ℕ) (xs : List FiberReportView)
    → has_distinct_keys (lanes_from names rows handles blocked lane xs) ≡ true
lanes names rows handles blocked lane [] = refl
lanes names rows handles blocked lane (x ∷ xs) =
    all_true _ _ (all_true _ _ (again_is lane (fiber_words handles x) (rows / AGAIN)) (foot_is names rows lane x (wait_of blocked x.id)))
    (lanes names rows handles blocked (suc lane) xs)

queue_lanes : (rows lane : ℕ) (names : List (List ℕ)) → has_distinct_keys (queue_lanes_from rows lane names) ≡ true
queue_lanes rows lane [] = refl
queue_lanes rows lane (name ∷ names) = all_true _ _ (again_is lane (codes "queue " ++ name) (rows / AGAIN)) (queue_lanes rows (suc lane) names)

bar_to_is : (fibers : List FiberReportView) (rows : ℕ) (x : Drawn) (bar : Bar) (closing : Option ℕ)
    → has_distinct_keys (bar_to fibers rows x bar closing) ≡ true
bar_to_is fibers rows x bar closing =
    cond_both (ends_in x.row closing) nothing _ (λ (c : Content). has_distinct_keys c ≡ true) (λ _. refl) (λ _. refl)

bar_is : (stood : List Stood) (fibers : List FiberReportView) (rows : ℕ) (x : Drawn) (list : List Drawn) (bar : Option Bar)
    → has_distinct_keys (bar_of stood fibers rows x list bar) ≡ true
bar_is stood fibers rows x list None = refl
bar_is stood fibers rows x list (Some bar) = bar_to_is fibers rows x bar (closing_row stood x.event.fiber bar list)

bars : (stood : List Stood) (fibers : List FiberReportView) (rows : ℕ) (xs : List Drawn) → has_distinct_keys (bars_from stood fibers rows xs) ≡ true
bars stood fibers rows [] = refl
bars stood fibers rows (x ∷ xs) =
    all_true _ _ (bar_is stood fibers rows x (x ∷ xs) (life_at x.event.place))
    (all_true _ _ (bar_is stood fibers rows x (x ∷ xs) (bar_at x.event.event))
    (all_true _ _ (bar_is stood fibers rows x (x ∷ xs) (mask_at stood x.event.fiber x.event.place)) (bars stood fibers rows xs)))

held_is : (lane row : ℕ) (held : Option ℕ) → has_distinct_keys (held_label lane row held) ≡ true
held_is lane row None = refl
held_is lane row (Some n) = refl

visit_is : (stood : List Stood) (fibers : List FiberReportView) (x : Drawn) (queue : Option ℕ) → has_distinct_keys (visit_for stood fibers x queue) ≡ true
visit_is stood fibers x None = refl
visit_is stood fibers x (Some q) = held_is (length fibers + q) x.row (told_held (stood_at stood x.event.fiber x.event.place))

times_are : (fibers : List FiberReportView) (row f : ℕ) (list : List Occurrence) (queues : ℕ)
    → has_distinct_keys (all_times fibers row f list queues) ≡ true
times_are fibers row f list zero = refl
times_are fibers row f list (suc q) =
    all_true _ _ (times_are fibers row f list q)
    (cond_both (count_at q 0 list == 0) nothing _ (λ (c : Content). has_distinct_keys c ≡ true) (λ _. refl) (λ _. refl))

visits_are : (stood : List Stood) (fibers : List FiberReportView) (queues row : ℕ) (list : List Occurrence)
    → has_distinct_keys (visits_of stood fibers queues row list) ≡ true
visits_are stood fibers queues row [] = refl
visits_are stood fibers queues row (o ∷ []) = visit_is stood fibers (record { row = row; event = o }) (queue_at o.event)
visits_are stood fibers queues row (o ∷ p ∷ os) = times_are fibers row o.fiber (o ∷ p ∷ os) queues

visits : (stood : List Stood) (fibers : List FiberReportView) (queues : ℕ) (list : List Drawn) (rows : ℕ)
    → has_distinct_keys (visits_in stood fibers queues list rows) ≡ true
visits stood fibers queues list zero = refl
visits stood fibers queues list (suc row) = all_true _ _ (visits stood fibers queues list row) (visits_are stood fibers queues row (in_row row list))

arrow_is : (fibers : List FiberReportView) (x y : Drawn) (cause : Option Cause) → has_distinct_keys (arrow_for fibers x y cause) ≡ true
arrow_is fibers x y None = refl
arrow_is fibers x y (Some cause) = refl

arrows_are : (fibers : List FiberReportView) (told : Option EventAt) (y : Drawn) (xs : List Drawn) → has_distinct_keys (arrows_to fibers told y xs) ≡ true
arrows_are fibers told y [] = refl
arrows_are fibers told y (x ∷ xs) = all_true _ _ (arrow_is fibers x y (cause_of told x.event y.event)) (arrows_are fibers told y xs)

all_arrows : (stood : List Stood) (fibers : List FiberReportView) (list : List Drawn) (place : ℕ) (ys : List Drawn)
    → has_distinct_keys (arrows_from stood fibers list place ys) ≡ true
all_arrows stood fibers list place [] = refl
all_arrows stood fibers list place (y ∷ ys) =
    all_true _ _ (arrows_are fibers (told_cause (stood_at stood y.event.fiber y.event.place)) y (take place list))
    (all_arrows stood fibers list (suc place) ys)

mark_is : (names : List (List ℕ)) (stood : List Stood) (fibers : List FiberReportView) (row : ℕ) (list : List Occurrence)
    → has_distinct_keys (mark_of names stood fibers row list) ≡ true
mark_is names stood fibers row [] = refl
mark_is names stood fibers row (o ∷ []) = refl
mark_is names stood fibers row (o ∷ p ∷ os) = refl

marks : (names : List (List ℕ)) (stood : List Stood) (fibers : List FiberReportView) (list : List Drawn) (rows : ℕ)
    → has_distinct_keys (marks_in names stood fibers list rows) ≡ true
marks names stood fibers list zero = refl
marks names stood fibers list (suc row) = all_true _ _ (marks names stood fibers list row) (mark_is names stood fibers row (in_row row list))

pub is_document : (names : List (List ℕ)) (stood : List Stood) (handles : List Named) (blocked : List Blocked) (fibers : List FiberReportView)
    (list : List Occurrence)
    → is_well_formed (picture_text names stood handles blocked fibers list) ≡ true
unfolding picture_text
is_document names stood handles blocked fibers list =
    let drawn = (sheet_of stood list).drawn in
    let rows = (sheet_of stood list).rows in
    let ground = all_true _ _ (lanes names rows handles blocked 0 fibers)
    (all_true _ _ (queue_lanes rows (length fibers) names) (bars stood fibers rows drawn)) in
    let figures = all_true _ _ (visits stood fibers (length names) drawn rows)
    (all_true _ _ (all_arrows stood fibers drawn 0 drawn) (marks names stood fibers drawn rows)) in
    well_formed tag.Svg (size (length fibers + length names) rows)
    (both (head (length fibers) (length drawn))
    (both legend (both (ground_of names stood handles blocked fibers (sheet_of stood list)) (figures_of names stood fibers (sheet_of stood list)))))
    (all_true _ _ ground figures)
