-- Pairs of terms that differ in how many masks they enter have the same reports in scripts.
use Rattle.std.proofs.Common.{◌≡◌, ℕ, Bool, true, false, None, List}
use Rattle.std.specs.Prelude.{◌↔◌}
use Rattle.fx_term.specs.Term.{Term, put}
use Rattle.fx_term.specs.Need.{need}
use Rattle.fx_model.specs.Row.{Counts, Label}
use Rattle.fx_model.specs.Step.{Progress, Runs}
use Rattle.fx_model.specs.Run.{first_counts}
use Rattle.fx_model.specs.Origin.{main_origin}
use Rattle.fx_model.specs.Outside.{Outside}
use Rattle.fx_laws.specs.Everywhere.{Place, come_to}
use Rattle.fx_script_laws.specs.Cover.{Cover, IsCoveredBy}
use Rattle.fx_script_laws.specs.Interchange.{StopsThere, CanComeTo, put_each, AreTheTwo, with_numbers, Where, EitherWay, as_is, turned}
use Rattle.fx_script_laws.specs.InScripts.{IsScriptTerm, AreAlikeInScripts}
use Rattle.fx_script_laws.proofs.Holes.{ArePut}
use Rattle.fx_script_laws.proofs.Interchanged.{PairsCome}
use Rattle.fx_script_laws.proofs.WholeTerms.{either_puts, either_needs, put_there, need_there}
use Rattle.fx_script_laws.proofs.SameReports.{reports_with_pairs, orders_with_pairs, lists_with_pairs}
use Rattle.fx_script_laws.proofs.EachFollows.{numbered}
use Rattle.fx_script_laws.proofs.Renumbered.{no_regions, plain_renumbered}
use Rattle.fx_script_laws.proofs.RenumberedRuns.{runs}
use Rattle.fx_script_laws.proofs.OwnRegions.{HasOwnRegions, own_kept, own_there}
use Rattle.fx_script_laws.proofs.AtClosedPlaces.{AreEndsOfStops, stops_end}

-- a whole term as a script has it has no region of its own
own_at_first : (t : Term) → IsScriptTerm t → HasOwnRegions (first_counts (main_origin t)) (Runs t)
own_at_first t h = runs (plain_renumbered no_regions (λ x. None) t h.0 h.1)

-- a fiber without regions but its own comes to the same where it comes to the one or to the other there
abbrev pub ComeToTheSameWithOwn : (Counts → Progress → Type 0) → Place → Term → Term → Type 0
ComeToTheSameWithOwn Ends place t u =
    (c : Counts) → HasOwnRegions c (come_to place t) → (ls : List Label) → CanComeTo Ends c (come_to place t) ls ↔ CanComeTo Ends c (come_to place u) ls

module _ (there : Cover → Bool) (own : ℕ → Bool) (Pair : Term → Term → Type 0)
    (puts : (x n : ℕ) (t u : Term) → own x ≡ false → Pair t u → Pair (put x n t) (put x n u)) (needs : (t u : Term) → Pair t u → need t ≡ need u)
    (comes : (Ends : Counts → Progress → Type 0) → AreEndsOfStops Ends → (s : Cover) (place : Place) → there s ≡ true → IsCoveredBy s place
    → (t u : Term) → Pair t u → ComeToTheSameWithOwn Ends place t u) where
  module _ (t u : Term) (pair : Pair t u) where
    abbrev Two : Cover → (ℕ → Bool) → Term → Term → Type 0
    Two = Where there (AreTheTwo own t u)

    of_two : {s : Cover} {v : ℕ → Bool} {a b : Term} → AreTheTwo own t u s v a b → Pair a b
    of_two (with_numbers numbers others apart) = numbered own Pair puts numbers others t u pair

    two_come : (o : Outside) (f : ℕ) (ended : Bool) → PairsCome (EitherWay Two) (StopsThere o f ended) HasOwnRegions
    two_come o f ended s a b (as_is p) place place' at c now now' =
        let come = comes (StopsThere o f ended) (stops_end o f ended) s place p.0 at a b (of_two p.1) c in
        (own_there place place' c a b now now', λ ls. (come now ls).0)
    two_come o f ended s a b (turned p) place place' at c now now' =
        let come = comes (StopsThere o f ended) (stops_end o f ended) s place p.0 at b a (of_two p.1) c in
        let then = own_there place place' c a b now now' in
        (then, λ ls. (come then ls).1)

    two_puts : ArePut (EitherWay Two)
    two_puts = either_puts (put_there own t u there)

    two_needs : (s : Cover) (v : ℕ → Bool) (a b : Term) → EitherWay Two s v a b → need a ≡ need b
    two_needs =
        either_needs (need_there own t u there
        (λ numbers others. needs (put_each numbers t) (put_each numbers u) (numbered own Pair puts numbers others t u pair)))

    pub alike_in_scripts : AreAlikeInScripts there own t u
    alike_in_scripts s z may r first second terms capacities =
        let main = own_at_first s.term first in
        let main' = own_at_first z.term second in
        record {
          reports = reports_with_pairs two_puts two_needs own_kept two_come s z may r terms capacities main main';
          orders = orders_with_pairs two_puts two_needs own_kept two_come s z may r terms capacities main main';
          lists = lists_with_pairs two_puts two_needs own_kept two_come s z may r terms capacities main main';
        }
