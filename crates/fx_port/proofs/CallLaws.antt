-- What a port agrees with after each call.
use Rattle.std.proofs.Common.{◌≡◌, ℕ, ◌+◌, suc, ◌<◌, ◌≤◌, Bool, true, false, List, [], ◌∷◌}
use Rattle.std.proofs.Common.{◌++◌, length, set, replicate, Option, Some, None, slice_get, refl, sym, ◌∙◌, ap, subst, arith}
use Rattle.std.specs.Option.{is_some}
use Rattle.std.proofs.lemmas.List.{map-append}
use Rattle.std.proofs.lemmas.Option.{same_Some, none-some}
use Rattle.fx_term.specs.declared.begin.Begin.{Begin}
use Rattle.fx_term.specs.declared.outcome.Outcome.{Outcome}
use Rattle.fx_fiber.specs.Deed.{Deed, Started, Requested, Saw, Put, Got, FoundFull, FoundEmpty, FoundEnded, Ended}
use Rattle.fx_fiber.specs.StampedDeed.{StampedDeed, stamped_deed, deeds_of}
use Rattle.fx_word.specs.Entry.{asking, looking, finished, peeked}
use Rattle.fx_word.specs.SeatView.{with_own, IsAsked, Knows, KnowsRequestStamp, KnowsEndStamp}
use Rattle.fx_word.specs.Words.{Seated}
use Rattle.fx_queue.specs.Queues.{HeldPass}
use Rattle.fx_queue.proofs.Counts.{put_count, got_count}
use Rattle.fx_port.specs.Marks.{KeepsMarks}
use Rattle.fx_port.specs.Rows.{PutsInto, GetsFrom, FoundFullAt, FoundEmptyAt, puts_by, puts_in}
use Rattle.fx_port.specs.WordsAgree.{WordsAgree, WordsStampsAgree}
use Rattle.fx_port.specs.PassesAgree.{PassesAgree, PassesStampsAgree}
use Rattle.fx_port.specs.PortView.{PortView, with_entry, kept_port, given_port}
use Rattle.fx_port.specs.ThreadCalls.{ThreadAgrees, with_passes, LooksOn, PeeksOn}
use Rattle.fx_port.proofs.WordsLaws as words
use Rattle.fx_port.proofs.WordsStampsLaws as words_stamps
use Rattle.fx_port.proofs.PassesLaws as passes
use Rattle.fx_port.proofs.PassesStampsLaws as passes_stamps
use Rattle.fx_port.proofs.RowLaws.{puts_set}

-- the port with this seat
abbrev pub seated : List HeldPass → List Bool → Seated → PortView
seated passes noted s = record { words = s.view; passes = passes; noted = noted }

-- the deed of the last one
deeds_more : (ds : List StampedDeed) (d : Deed) (n : ℕ) → deeds_of (ds ++ stamped_deed d n ∷ []) ≡ deeds_of ds ++ d ∷ []
deeds_more ds d n = map-append (λ (x : StampedDeed). x.deed) ds (stamped_deed d n ∷ [])

-- a port agrees with one deed more, where its seat and its passes do
with_deed : (p : PortView) (ds : List StampedDeed) (d : Deed) (n : ℕ)
    → WordsAgree p.words.own p.noted (deeds_of ds ++ d ∷ []) → WordsStampsAgree p.words.own p.noted (ds ++ stamped_deed d n ∷ [])
    → PassesAgree p.words.own.id p.passes (deeds_of ds ++ d ∷ []) → PassesStampsAgree p.words.own.id p.passes (ds ++ stamped_deed d n ∷ [])
    → ThreadAgrees p (ds ++ stamped_deed d n ∷ [])
with_deed p ds d n in_words in_words_stamps in_passes in_passes_stamps = record {
  words = subst (λ (l : List Deed). WordsAgree p.words.own p.noted l) (sym (deeds_more ds d n)) in_words;
  words_stamps = in_words_stamps;
  passes = subst (λ (l : List Deed). PassesAgree p.words.own.id p.passes l) (sym (deeds_more ds d n)) in_passes;
  passes_stamps = in_passes_stamps;
}

-- a law of one deed, of a port that is known by equations
pub by_deed : (p now after made : PortView) (d : Deed) (n : ℕ) → p ≡ now → made ≡ after
    → ((ds : List StampedDeed) → ThreadAgrees p ds → ThreadAgrees after (ds ++ stamped_deed d n ∷ []))
    → (ds : List StampedDeed) → ThreadAgrees now ds → ThreadAgrees made (ds ++ stamped_deed d n ∷ [])
by_deed p now after made d n is becomes law ds a = subst (λ (u : PortView). ThreadAgrees u (ds ++ stamped_deed d n ∷ [])) (sym becomes)
    (law ds (subst (λ (u : PortView). ThreadAgrees u ds) (sym is) a))

-- a law of a call that is no deed
pub by_no_deed : (p now after made : PortView) → p ≡ now → made ≡ after → ((ds : List StampedDeed) → ThreadAgrees p ds → ThreadAgrees after ds)
    → (ds : List StampedDeed) → ThreadAgrees now ds → ThreadAgrees made ds
by_no_deed p now after made is becomes law ds a = subst (λ (u : PortView). ThreadAgrees u ds) (sym becomes)
    (law ds (subst (λ (u : PortView). ThreadAgrees u ds) (sym is) a))

module _ (p : PortView) where
  pub looks : (t : ℕ) (ds : List StampedDeed) → ThreadAgrees p ds
      → ThreadAgrees (with_entry p (looking (Some t) p.words.own)) (ds ++ stamped_deed Saw t ∷ [])
  looks t ds a = with_deed (with_entry p (looking (Some t) p.words.own)) ds Saw t
      (words.look_agrees p.words.own p.noted (deeds_of ds) a.words t)
      (words_stamps.look_agrees p.words.own p.noted ds a.words_stamps t)
      (passes.look_agrees p.words.own.id p.passes (deeds_of ds) a.passes)
      (passes_stamps.other_agrees p.words.own.id p.passes ds (stamped_deed Saw t) (λ q. refl) a.passes_stamps)

  pub requests : (f t : ℕ) → f < length p.noted → (ds : List StampedDeed) → ThreadAgrees p ds
      → ThreadAgrees (with_entry p (asking f t p.words.own)) (ds ++ stamped_deed (Requested f) t ∷ [])
  requests f t below ds a = with_deed (with_entry p (asking f t p.words.own)) ds (Requested f) t
      (words.request_agrees p.words.own p.noted (deeds_of ds) a.words f t below)
      (words_stamps.request_agrees p.words.own p.noted ds a.words_stamps f t)
      (passes.request_agrees p.words.own.id p.passes (deeds_of ds) f a.passes)
      (passes_stamps.other_agrees p.words.own.id p.passes ds (stamped_deed (Requested f) t) (λ q. refl) a.passes_stamps)

  -- a request of a fiber that there is not
  pub requests_nobody : (f t : ℕ) → length p.noted ≤ f → (ds : List StampedDeed) → ThreadAgrees p ds
      → ThreadAgrees p (ds ++ stamped_deed (Requested f) t ∷ [])
  requests_nobody f t beyond ds a = let d = stamped_deed (Requested f) t in with_deed p ds (Requested f) t
      (words.idle_request_agrees p.words.own p.noted (deeds_of ds) a.words f beyond)
      (words_stamps.other_agrees p.words.own p.noted ds a.words_stamps d refl refl refl refl)
      (passes.request_agrees p.words.own.id p.passes (deeds_of ds) f a.passes)
      (passes_stamps.other_agrees p.words.own.id p.passes ds d (λ q. refl) a.passes_stamps)

  pub peeks : (f : ℕ) (o : Outcome) (t : ℕ) (ds : List StampedDeed) → ThreadAgrees p ds
      → ThreadAgrees (with_entry p (peeked f o t p.words.own)) (ds ++ stamped_deed (FoundEnded f o) t ∷ [])
  peeks f o t ds a = with_deed (with_entry p (peeked f o t p.words.own)) ds (FoundEnded f o) t
      (words.peek_agrees p.words.own p.noted (deeds_of ds) a.words f t o)
      (words_stamps.peek_agrees p.words.own p.noted ds a.words_stamps f t o)
      (passes.peek_agrees p.words.own.id p.passes (deeds_of ds) f o a.passes)
      (passes_stamps.other_agrees p.words.own.id p.passes ds (stamped_deed (FoundEnded f o) t) (λ q. refl) a.passes_stamps)

  pub finishes : (o : Outcome) (t : ℕ) → p.words.own.ended ≡ None → (ds : List StampedDeed) → ThreadAgrees p ds
      → ThreadAgrees (with_entry p (finished o t p.words.own)) (ds ++ stamped_deed (Ended o) t ∷ [])
  finishes o t running ds a = with_deed (with_entry p (finished o t p.words.own)) ds (Ended o) t
      (words.finish_agrees p.words.own p.noted (deeds_of ds) a.words o t running)
      (words_stamps.finish_agrees p.words.own p.noted ds a.words_stamps o t (λ v i. none-some v (sym running ∙ (a.words.ended v).1 i)))
      (passes.finish_agrees p.words.own.id p.passes (deeds_of ds) o a.passes)
      (passes_stamps.other_agrees p.words.own.id p.passes ds (stamped_deed (Ended o) t) (λ q. refl) a.passes_stamps)

  -- a request from outside is no deed
  pub outsides : (f : ℕ) → f < length p.noted → (ds : List StampedDeed) → ThreadAgrees p ds
      → ThreadAgrees (record p { words = with_own p.words (asking f 0 p.words.own); noted = set p.noted f true }) ds
  outsides f below ds a = record {
    words = words.outside_agrees p.words.own p.noted (deeds_of ds) a.words f below;
    words_stamps = words_stamps.outside_agrees p.words.own p.noted ds a.words_stamps f below;
    passes = a.passes;
    passes_stamps = a.passes_stamps;
  }

  pub finds_full : (q : ℕ) → FoundFullAt p.passes q → (ds : List StampedDeed) → ThreadAgrees p ds
      → ThreadAgrees p (ds ++ stamped_deed (FoundFull q) 0 ∷ [])
  finds_full q h ds a = let d = stamped_deed (FoundFull q) 0 in with_deed p ds (FoundFull q) 0
      (words.full_agrees p.words.own p.noted (deeds_of ds) a.words q)
      (words_stamps.other_agrees p.words.own p.noted ds a.words_stamps d refl refl refl refl)
      (passes.full_agrees p.words.own.id p.passes (deeds_of ds) q h a.passes)
      (passes_stamps.other_agrees p.words.own.id p.passes ds d (λ k. refl) a.passes_stamps)

  pub finds_empty : (q : ℕ) → FoundEmptyAt p.passes q → (ds : List StampedDeed) → ThreadAgrees p ds
      → ThreadAgrees p (ds ++ stamped_deed (FoundEmpty q) 0 ∷ [])
  finds_empty q h ds a = let d = stamped_deed (FoundEmpty q) 0 in with_deed p ds (FoundEmpty q) 0
      (words.empty_agrees p.words.own p.noted (deeds_of ds) a.words q)
      (words_stamps.other_agrees p.words.own p.noted ds a.words_stamps d refl refl refl refl)
      (passes.empty_agrees p.words.own.id p.passes (deeds_of ds) q h a.passes)
      (passes_stamps.other_agrees p.words.own.id p.passes ds d (λ k. refl) a.passes_stamps)

  module _ (whose : (q : ℕ) (s : HeldPass) → slice_get p.passes q ≡ Some s → s.view.own.id ≡ p.words.own.id) where
    pub puts : (q n t : ℕ) (row : List HeldPass) → PutsInto p.passes q n t row → (ds : List StampedDeed) → ThreadAgrees p ds
        → ThreadAgrees (with_passes p row) (ds ++ stamped_deed (Put q n) t ∷ [])
    puts q n t row put ds a = with_deed (with_passes p row) ds (Put q n) t
        (words.put_agrees p.words.own p.noted (deeds_of ds) a.words q n)
        (words_stamps.other_agrees p.words.own p.noted ds a.words_stamps (stamped_deed (Put q n) t) refl refl refl refl)
        (passes.put_agrees p.words.own.id p.passes row (deeds_of ds) q n t whose put a.passes)
        (passes_stamps.put_agrees p.words.own.id p.passes row ds q n t whose put a.passes_stamps)

    pub gets : (q n t : ℕ) (row : List HeldPass) → GetsFrom p.passes q n t row → (ds : List StampedDeed) → ThreadAgrees p ds
        → ThreadAgrees (with_passes p row) (ds ++ stamped_deed (Got q n) t ∷ [])
    gets q n t row got ds a = with_deed (with_passes p row) ds (Got q n) t
        (words.got_agrees p.words.own p.noted (deeds_of ds) a.words q n)
        (words_stamps.other_agrees p.words.own p.noted ds a.words_stamps (stamped_deed (Got q n) t) refl refl refl refl)
        (passes.got_agrees p.words.own.id p.passes row (deeds_of ds) q n t whose got a.passes)
        (passes_stamps.got_agrees p.words.own.id p.passes row ds q n t whose got a.passes_stamps)

  pub starts : (id : ℕ) (b : Begin) → id ≡ p.words.own.next → passes.AreTheirs p.words.own.id p.words.own.next p.passes
      → (ds : List StampedDeed) → ThreadAgrees p ds → ThreadAgrees (kept_port b p) (ds ++ stamped_deed (Started id b) b.stamp ∷ [])
  starts id b is theirs ds a = subst (λ (i : ℕ). ThreadAgrees (kept_port b p) (ds ++ stamped_deed (Started i b) b.stamp ∷ [])) (sym is)
      (let d = Started p.words.own.next b in with_deed (kept_port b p) ds d b.stamp
      (words.start_agrees p.words.own p.noted (deeds_of ds) a.words b)
      (words_stamps.start_agrees p.words.own p.noted ds a.words_stamps b)
      (passes.start_agrees p.words.own.id p.passes (deeds_of ds) p.words.own.next b theirs a.passes)
      (passes_stamps.start_agrees p.words.own.id p.passes ds b.end (stamped_deed d b.stamp) (λ q. refl) a.passes_stamps))

  -- the port of a child agrees with nothing done
  pub begins : (fibers : ℕ) (b : Begin) → ThreadAgrees (given_port fibers b p) []
  begins fibers b = record {
    words = words.fresh_agrees p.words.own.next (Some (p.words.own.id, b)) b.next b.end fibers;
    words_stamps = words_stamps.fresh_agrees p.words.own.next (Some (p.words.own.id, b)) b.next b.end (replicate fibers false);
    passes = passes.fresh_agrees p.words.own.next p.passes b.end;
    passes_stamps = passes_stamps.fresh_agrees p.words.own.next p.passes b.end;
  }

pub count_put : (ps ps' : List HeldPass) (q n t : ℕ) → PutsInto ps q n t ps' → puts_in ps' ≡ suc (puts_in ps)
count_put ps ps' q n t put =
    let a = puts_set ps q put.pass put.pass' put.at in
    let b : puts_by put.pass' ≡ puts_by put.pass + 1 = put_count put.pass.view n t put.pass'.view put.did in
    let e = ap puts_in put.is in
    omega (arith, a, b, e)

pub count_got : (ps ps' : List HeldPass) (q n t : ℕ) → GetsFrom ps q n t ps' → puts_in ps' ≡ puts_in ps
count_got ps ps' q n t got =
    let a = puts_set ps q got.pass got.pass' got.at in
    let b : puts_by got.pass' ≡ puts_by got.pass = got_count got.pass.view got.item got.pass'.view got.did in
    let e = ap puts_in got.is in
    omega (arith, a, b, e)

pub unfinished : {A : Type 0} (o : Option A) → is_some o ≡ false → o ≡ None
unfinished None e = refl
unfinished (Some x) e = let z : ⊥ = cc in absurd z

-- what a look tells
pub look_finds : (p now made : PortView) (w w' : List Bool) (t : ℕ) → p ≡ now → made ≡ with_entry p (looking (Some t) p.words.own)
    → (IsAsked p.words → (s : ℕ) × (Some t ≡ Some s)) → ((s : ℕ) → KnowsRequestStamp p.words s → s ≤ t) → KeepsMarks w w'
    → LooksOn now w (Some t) made w'
look_finds p now made w w' t is becomes knows greatest keeps = subst (λ (u : PortView). LooksOn u w (Some t) made w') is
    (becomes, knows, greatest, keeps)

-- what a peek tells
module _ (fibers : ℕ) (p now made : PortView) (w w' : List Bool) (f : ℕ) (is : p ≡ now) where
  pub peek_finds : (x : Outcome × ℕ) → made ≡ with_entry p (peeked f x.0 x.1 p.words.own)
      → ((k : Outcome) → Knows p.words f k → (t : ℕ) × (Some x ≡ Some (k, t))) → ((t : ℕ) → KnowsEndStamp p.words f t → x.1 ≡ t) → KeepsMarks w w'
      → PeeksOn fibers now w f (Some x) made w'
  peek_finds x becomes knows stamp keeps = subst (λ (u : PortView). PeeksOn fibers u w f (Some x) made w') is
      (becomes, (λ k h. let t = knows k h in ap (λ (y : Outcome × ℕ). y.0) (same_Some x (k, t.0) t.1)), stamp, keeps)

  pub peek_finds_none : made ≡ p
      → ((k : Outcome) → Knows p.words f k → (t : ℕ) × (◌≡◌ {A = Option (Outcome × ℕ)} None (Some (k, t)))) → w' ≡ w
      → PeeksOn fibers now w f None made w'
  peek_finds_none becomes knows keeps = subst (λ (u : PortView). PeeksOn fibers u w f None made w') is
      ((λ lt k h. let t = knows k h in none-some (k, t.0) t.1), becomes, keeps)
