-- What is so of the stamps of events goes on when a fiber shows one event more.
use Rattle.std.proofs.Common.{◌≡◌, ℕ, zero, suc, ◌+◌, ◌<◌, ◌≤◌, Some, List, [], ◌∷◌, ◌++◌, length, max, sym, ◌∙◌, ap, subst, arith, ◌⊎◌, inl, inr}
use Rattle.std.specs.Prelude.{slice_get}
use Rattle.std.proofs.lemmas.Bool.{cases_lt}
use Rattle.std.proofs.lemmas.List.{length-append}
use Rattle.std.proofs.lemmas.Option.{slice_get_within}
use Rattle.fx_term.specs.declared.outcome.Outcome.{Outcome}
use Rattle.fx_term.specs.declared.event.Event.{Event}
use Rattle.fx_term.specs.declared.event.Event.TheVariants as event
use Rattle.fx_model.specs.Row.{Label, Learns}
use Rattle.fx_model.specs.Stamps.{one_more, stamp_before, HasNoCause, IsRequestStamp}
use Rattle.fx_model.specs.ToldStamps.{OwnStamps}
use Rattle.fx_model.proofs.Appended.{at_seam}
use Rattle.fx_model.proofs.OneOrder.{GrowsAt, Stands, stood, comes, stands, still_stands, old_or_new}
use Rattle.fx_plain.specs.StampedList.{IsRequestedWith, IsGreatestRequest}

-- the numbers of events stay, and that of the event which came is this one
pub record Numbers (trace : ℕ → List Event) (f : ℕ) (more : List Event) (number number' : ℕ → ℕ → ℕ) (new : ℕ) : Type 0 where
  pub kept : (g i : ℕ) → i < length (trace g) → number' g i ≡ number g i
  pub now : 0 < length more → number' f (length (trace f)) ≡ new

-- an event of fiber g that names fiber h has the stamp that is told of h
abbrev pub Tells : (ℕ → Event → ℕ → Type 0) → (ℕ → List Event) → (ℕ → ℕ → ℕ) → (ℕ → ℕ) → Type 0
Tells Names trace stamp told = (h g j : ℕ) (e : Event) → Names g e h → slice_get (trace g) j ≡ Some e → told h ≡ stamp g j

-- n is the greatest stamp of the requests for fiber f, or 0 where there is none
pub record IsAsked (trace : ℕ → List Event) (stamp : ℕ → ℕ → ℕ) (f n : ℕ) : Type 0 where
  pub greatest : (g j : ℕ) → slice_get (trace g) j ≡ Some (event.Request f) → stamp g j ≤ n
  pub is : IsRequestStamp trace stamp f n ⊎ ((n ≡ 0) × ((g j : ℕ) → slice_get (trace g) j ≡ Some (event.Request f) → ⊥))

-- what learns of the end of a fiber has the stamp that is told of that end
abbrev pub Learnt : (ℕ → List Label) → (ℕ → ℕ → ℕ) → (ℕ → ℕ) → Type 0
Learnt shown cause ended = (g i h : ℕ) (o : Outcome) (e : Event) → slice_get (shown g) i ≡ Some (Learns h o e) → cause g i ≡ ended h

-- what sees a request has the stamp of the greatest so far
abbrev pub AreGreatest : (ℕ → List Event) → (ℕ → ℕ → ℕ) → (ℕ → ℕ → ℕ) → (ℕ → ℕ → ℕ) → Type 0
AreGreatest trace stamp moment cause = (g i : ℕ) → slice_get (trace g) i ≡ Some event.Seen
    → IsGreatestRequest trace stamp moment g (moment g i) (cause g i)

shows_some : (more : List Event) (e : Event) → more ≡ e ∷ [] → 0 < length more
shows_some more e is = let one : length more ≡ 1 = ap length is in omega arith

module _ (trace trace' : ℕ → List Event) (f : ℕ) (more : List Event) (grows : GrowsAt trace trace' f more) where
  place_of : (g j : ℕ) (e : Event) → slice_get (trace' g) j ≡ Some e → Stands trace f more g j e
  place_of g j e at = stands trace trace' f more grows g j e at

  module _ (number number' : ℕ → ℕ → ℕ) (n : ℕ) (numbers : Numbers trace f more number number' n) where
    old_is : (g j : ℕ) (e : Event) → slice_get (trace g) j ≡ Some e → number' g j ≡ number g j
    old_is g j e at = numbers.kept g j (slice_get_within (trace g) j e at)

    new_is : (g j : ℕ) (e : Event) → g ≡ f → j ≡ length (trace f) → more ≡ e ∷ [] → number' g j ≡ n
    new_is g j e same place is = ap (λ (k : ℕ). number' k j) same ∙ ap (number' f) place ∙ numbers.now (shows_some more e is)

  module _ (stamp stamp' : ℕ → ℕ → ℕ) (t : ℕ) (stamps : Numbers trace f more stamp stamp' t) where
    pub tells_grow : (Names : ℕ → Event → ℕ → Type 0) (told told' : ℕ → ℕ)
        → ((h g j : ℕ) (e : Event) → Names g e h → slice_get (trace g) j ≡ Some e → told' h ≡ told h)
        → ((h : ℕ) (e : Event) → Names f e h → more ≡ e ∷ [] → told' h ≡ t) → Tells Names trace stamp told → Tells Names trace' stamp' told'
    tells_grow Names told told' stays new old h g j e names at = by_place (place_of g j e at)
      where
        by_place : Stands trace f more g j e → told' h ≡ stamp' g j
        by_place (stood is) = stays h g j e names is ∙ old h g j e names is ∙ sym (old_is stamp stamp' t stamps g j e is)
        by_place (comes same place is) =
            new h e (subst (λ (k : ℕ). Names k e h) same names) is ∙ sym (new_is stamp stamp' t stamps g j e same place is)

    request_stays : (h n : ℕ) → IsRequestStamp trace stamp h n → IsRequestStamp trace' stamp' h n
    request_stays h n r = record {
      by = r.by;
      place = r.place;
      request = still_stands trace trace' f more grows r.by r.place (event.Request h) r.request;
      is = r.is ∙ sym (old_is stamp stamp' t stamps r.by r.place (event.Request h) r.request);
    }

    new_request : (h n : ℕ) → more ≡ event.Request h ∷ [] → n ≡ t → IsRequestStamp trace' stamp' h n
    new_request h n is same = record {
      by = f;
      place = length (trace f);
      request =
          ap (λ (es : List Event). slice_get es (length (trace f))) (grows.own ∙ ap (λ (es : List Event). trace f ++ es) is)
          ∙ at_seam (trace f) (event.Request h);
      is = same ∙ sym (stamps.now (shows_some more (event.Request h) is));
    }

    -- a fiber that is not requested
    pub asked_stays : (h n : ℕ) → (more ≡ event.Request h ∷ [] → ⊥) → IsAsked trace stamp h n → IsAsked trace' stamp' h n
    asked_stays h n unasked a = record {
      greatest = λ g j at. greatest g j (place_of g j (event.Request h) at);
      is = elim a.is [
        | inl r ↦ inl (request_stays h n r)
        | inr z ↦ inr (z.0, λ g j at. none z.1 g j (place_of g j (event.Request h) at))
      ];
    }
      where
        greatest : (g j : ℕ) → Stands trace f more g j (event.Request h) → stamp' g j ≤ n
        greatest g j (stood is) =
            let old = old_is stamp stamp' t stamps g j (event.Request h) is in let le = a.greatest g j is in omega arith
        greatest g j (comes same place is) = absurd (unasked is)

        none : ((g j : ℕ) → slice_get (trace g) j ≡ Some (event.Request h) → ⊥) → (g j : ℕ) → Stands trace f more g j (event.Request h) → ⊥
        none before g j (stood is) = before g j is
        none before g j (comes same place is) = unasked is

    -- and one that is
    pub asked_grows : (h n : ℕ) → more ≡ event.Request h ∷ [] → IsAsked trace stamp h n → IsAsked trace' stamp' h (max t n)
    asked_grows h n requests a = record {
      greatest = λ g j at. greatest g j (place_of g j (event.Request h) at);
      is = elim a.is [
        | inl r ↦ elim (cases_lt t n) [
          | inl lt ↦ (let more_than : n ≡ max t n = omega arith in inl (subst (IsRequestStamp trace' stamp' h) more_than (request_stays h n r)))
          | inr le ↦ (let less_than : max t n ≡ t = omega arith in inl (new_request h (max t n) requests less_than))
        ]
        | inr z ↦ (let none = z.0 in let same : max t n ≡ t = omega arith in inl (new_request h (max t n) requests same))
      ];
    }
      where
        greatest : (g j : ℕ) → Stands trace f more g j (event.Request h) → stamp' g j ≤ max t n
        greatest g j (stood is) =
            let old = old_is stamp stamp' t stamps g j (event.Request h) is in let le = a.greatest g j is in omega arith
        greatest g j (comes same place is) = let new = new_is stamp stamp' t stamps g j (event.Request h) same place is in omega arith

    module _ (cause cause' : ℕ → ℕ → ℕ) (c : ℕ) (causes : Numbers trace f more cause cause' c) where
      before_stays : (b b' g i : ℕ) → b' ≡ b → i ≤ length (trace g) → stamp_before b' (stamp' g) i ≡ stamp_before b (stamp g) i
      before_stays b b' g zero same le = same
      before_stays b b' g (suc i) same le = stamps.kept g i (omega arith)

      -- of a fiber alone
      module _ (began began' : ℕ → ℕ) (same : (g : ℕ) → 0 < length (trace' g) → began' g ≡ began g)
          (is : t ≡ one_more (max (stamp_before (began f) (stamp f) (length (trace f))) c))
          (none : (e : Event) → more ≡ e ∷ [] → HasNoCause e → c ≡ 0) (own : (g : ℕ) → OwnStamps (trace g) (began g) (stamp g) (cause g)) where
        abbrev next : ℕ → ℕ → ℕ
        next b k = one_more (max b k)

        each_old : (g i : ℕ) → i < length (trace' g) → i < length (trace g)
            → stamp' g i ≡ next (stamp_before (began' g) (stamp' g) i) (cause' g i)
        each_old g i lt old =
            stamps.kept g i old ∙ (own g).each i old
            ∙ ap (λ (k : ℕ). next k (cause g i)) (sym (before_stays (began g) (began' g) g i (same g (omega arith)) (omega arith)))
            ∙ ap (next (stamp_before (began' g) (stamp' g) i)) (sym (causes.kept g i old))

        each_new : (g i : ℕ) → i < length (trace' g) → g ≡ f → i ≡ length (trace f)
            → stamp' g i ≡ next (stamp_before (began' g) (stamp' g) i) (cause' g i)
        each_new g i lt at place =
            let long : length (trace' g) ≡ length (trace f) + length more =
            ap (λ (k : ℕ). length (trace' k)) at ∙ ap length grows.own ∙ length-append (trace f) more in
            let some : 0 < length more = omega arith in
            let from : began' f ≡ began f = same f (subst (λ (k : ℕ). 0 < length (trace' k)) at (omega arith)) in
            let here : stamp' f (length (trace f)) ≡ next (stamp_before (began' f) (stamp' f) (length (trace f))) (cause' f (length (trace f))) =
            stamps.now some ∙ is
            ∙ ap (λ (k : ℕ). next k c) (sym (before_stays (began f) (began' f) f (length (trace f)) from (omega arith)))
            ∙ ap (next (stamp_before (began' f) (stamp' f) (length (trace f)))) (sym (causes.now some)) in
            rw (at, place) here

        none_after : (g i : ℕ) (e : Event) → slice_get (trace' g) i ≡ Some e → HasNoCause e → cause' g i ≡ 0
        none_after g i e at quiet = by_place (place_of g i e at)
          where
            by_place : Stands trace f more g i e → cause' g i ≡ 0
            by_place (stood was) = old_is cause cause' c causes g i e was ∙ (own g).none i e was quiet
            by_place (comes same place now) = new_is cause cause' c causes g i e same place now ∙ none e now quiet

        pub own_grows : (g : ℕ) → OwnStamps (trace' g) (began' g) (stamp' g) (cause' g)
        own_grows g = record {
          each = λ i lt. elim (old_or_new trace trace' f more grows g i lt) [
            | inl old ↦ each_old g i lt old
            | inr new ↦ each_new g i lt new.0 new.1
          ];
          none = none_after g;
        }

      pub learnt_grows : (shown shown' : ℕ → List Label) (label : List Label) → GrowsAt shown shown' f label
          → ((g : ℕ) → length (shown g) ≡ length (trace g)) → (length label ≡ length more) → (ended ended' : ℕ → ℕ)
          → ((g i h : ℕ) (o : Outcome) (e : Event) → slice_get (shown g) i ≡ Some (Learns h o e) → ended' h ≡ ended h)
          → ((h : ℕ) (o : Outcome) (e : Event) → label ≡ Learns h o e ∷ [] → c ≡ ended' h) → Learnt shown cause ended → Learnt shown' cause' ended'
      learnt_grows shown shown' label longer same few ended ended' stays new old g i h o e at =
          by_place (stands shown shown' f label longer g i (Learns h o e) at)
        where
          by_place : Stands shown f label g i (Learns h o e) → cause' g i ≡ ended' h
          by_place (stood is) =
              let lt = slice_get_within (shown g) i (Learns h o e) is in let long = same g in
              causes.kept g i (omega arith) ∙ old g i h o e is ∙ sym (stays g i h o e is)
          by_place (comes at place is) =
              let one : length label ≡ 1 = ap length is in
              ap (λ (k : ℕ). cause' k i) at ∙ ap (cause' f) (place ∙ same f) ∙ causes.now (omega arith) ∙ new h o e is

      -- of the requests that are seen, where each event that came before has a moment before now
      module _ (moment moment' : ℕ → ℕ → ℕ) (n : ℕ) (moments : Numbers trace f more moment moment' n)
          (past : (g i : ℕ) → i < length (trace g) → moment g i < n) where
        older : (g j : ℕ) (e : Event) → slice_get (trace g) j ≡ Some e → moment g j < n
        older g j e at = past g j (slice_get_within (trace g) j e at)

        requested_still : (h now now' k : ℕ) → now ≡ now' → IsRequestedWith trace stamp moment h now k
            → IsRequestedWith trace' stamp' moment' h now' k
        requested_still h now now' k same r = record {
          by = r.by;
          place = r.place;
          request = still_stands trace trace' f more grows r.by r.place (event.Request h) r.request;
          before = (let old = old_is moment moment' n moments r.by r.place (event.Request h) r.request in let lt = r.before in omega arith);
          is = r.is ∙ sym (old_is stamp stamp' t stamps r.by r.place (event.Request h) r.request);
        }

        -- a request for a fiber that comes before such a moment was there
        was_there : (h now g j : ℕ) → now ≤ n → Stands trace f more g j (event.Request h) → moment' g j < now
            → slice_get (trace g) j ≡ Some (event.Request h)
        was_there h now g j le (stood is) before = is
        was_there h now g j le (comes same place is) before =
            absurd (let new = new_is moment moment' n moments g j (event.Request h) same place is in omega arith)

        greatest_still : (h now now' k : ℕ) → now ≡ now' → now ≤ n → IsGreatestRequest trace stamp moment h now k
            → IsGreatestRequest trace' stamp' moment' h now' k
        greatest_still h now now' k same le r = record {
          greatest = λ g j at before.
              (let there = was_there h now' g j (omega arith) (place_of g j (event.Request h) at) before in
              let old = old_is moment moment' n moments g j (event.Request h) there in
              let stays = old_is stamp stamp' t stamps g j (event.Request h) there in
              let most = r.greatest g j there (omega arith) in omega arith);
          is = elim r.is [
            | inl is ↦ inl (requested_still h now now' k same is)
            | inr z ↦ inr (
              z.0,
              λ g j at before.
                  (let there = was_there h now' g j (omega arith) (place_of g j (event.Request h) at) before in
                  let old = old_is moment moment' n moments g j (event.Request h) there in
                  z.1 g j there (omega arith)),
            )
          ];
        }

        -- at the moment that comes after all of them they are all that there are
        asked_is_greatest : (h k : ℕ) → IsAsked trace stamp h k → IsGreatestRequest trace stamp moment h n k
        asked_is_greatest h k a = record {
          greatest = λ g j at before. a.greatest g j at;
          is = elim a.is [
            | inl r ↦ inl (record {
              by = r.by;
              place = r.place;
              request = r.request;
              before = older r.by r.place (event.Request h) r.request;
              is = r.is;
            })
            | inr z ↦ inr (z.0, λ g j at before. z.1 g j at)
          ];
        }

        pub seen_grows : (asked : ℕ → ℕ) → ((h : ℕ) → IsAsked trace stamp h (asked h)) → (more ≡ event.Seen ∷ [] → c ≡ asked f)
            → AreGreatest trace stamp moment cause → AreGreatest trace' stamp' moment' cause'
        seen_grows asked are new old g i at = by_place (place_of g i event.Seen at)
          where
            by_place : Stands trace f more g i event.Seen → IsGreatestRequest trace' stamp' moment' g (moment' g i) (cause' g i)
            by_place (stood is) =
                let was = old_is moment moment' n moments g i event.Seen is in
                let lt = older g i event.Seen is in
                subst (IsGreatestRequest trace' stamp' moment' g (moment' g i)) (sym (old_is cause cause' c causes g i event.Seen is))
                (greatest_still g (moment g i) (moment' g i) (cause g i) (sym was) (omega arith) (old g i is))
            by_place (comes same place is) =
                let here : moment' g i ≡ n = new_is moment moment' n moments g i event.Seen same place is in
                let told : asked g ≡ cause' g i = ap asked same ∙ sym (new is) ∙ sym (new_is cause cause' c causes g i event.Seen same place is) in
                subst (IsGreatestRequest trace' stamp' moment' g (moment' g i)) told
                (greatest_still g n (moment' g i) (asked g) (sym here) (omega arith) (asked_is_greatest g (asked g) (are g)))
