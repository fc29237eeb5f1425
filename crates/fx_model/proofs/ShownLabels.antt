-- The labels that show an event stand where the events stand.
use Rattle.std.proofs.Common.{◌≡◌, ℕ, suc, ◌≤◌, Some, List, [], ◌∷◌, ◌++◌, All, length, refl, ap, arith, subst}
use Rattle.std.specs.Prelude.{slice_get}
use Rattle.std.proofs.lemmas.Option.{slice_get_within, get_or_from_slice_get}
use Rattle.std.proofs.lemmas.List.Elements.{All-nil, All-cons, All-head, All-tail}
use Rattle.fx_model.specs.Row.{Label, Silent, Shows, Learns, Starts}
use Rattle.fx_model.specs.Run.{events, shown}

-- they show the same events
pub shown_events : (ls : List Label) → events (shown ls) ≡ events ls
shown_events [] = refl
shown_events (Silent ∷ ls) = shown_events ls
shown_events (Shows e ∷ ls) = let h = shown_events ls in cc
shown_events (Learns f o e ∷ ls) = let h = shown_events ls in cc
shown_events (Starts f b ∷ ls) = let h = shown_events ls in cc

-- and each shows one
pub shown_length : (ls : List Label) → length (shown ls) ≡ length (events ls)
shown_length [] = refl
shown_length (Silent ∷ ls) = shown_length ls
shown_length (Shows e ∷ ls) = ap suc (shown_length ls)
shown_length (Learns f o e ∷ ls) = ap suc (shown_length ls)
shown_length (Starts f b ∷ ls) = ap suc (shown_length ls)

pub shown_append : (ls ms : List Label) → shown (ls ++ ms) ≡ shown ls ++ shown ms
shown_append [] ms = refl
shown_append (Silent ∷ ls) ms = shown_append ls ms
shown_append (Shows e ∷ ls) ms = ap (λ (ks : List Label). Shows e ∷ ks) (shown_append ls ms)
shown_append (Learns f o e ∷ ls) ms = ap (λ (ks : List Label). Learns f o e ∷ ks) (shown_append ls ms)
shown_append (Starts f b ∷ ls) ms = ap (λ (ks : List Label). Starts f b ∷ ks) (shown_append ls ms)

-- a label shows one event at most
pub one_shown : (l : Label) → length (shown (l ∷ [])) ≤ 1
one_shown Silent = omega arith
one_shown (Shows e) = omega arith
one_shown (Learns f o e) = omega arith
one_shown (Starts f b) = omega arith

all_shown : (P : Label → Type 0) (ls : List Label) → All P ls → All P (shown ls)
all_shown P [] h = All-nil P
all_shown P (Silent ∷ ls) h = all_shown P ls (All-tail P Silent ls h)
all_shown P (Shows e ∷ ls) h = All-cons P (Shows e) (shown ls) (All-head P (Shows e) ls h) (all_shown P ls (All-tail P (Shows e) ls h))
all_shown P (Learns f o e ∷ ls) h =
    All-cons P (Learns f o e) (shown ls) (All-head P (Learns f o e) ls h) (all_shown P ls (All-tail P (Learns f o e) ls h))
all_shown P (Starts f b ∷ ls) h = All-cons P (Starts f b) (shown ls) (All-head P (Starts f b) ls h) (all_shown P ls (All-tail P (Starts f b) ls h))

-- what holds of all labels holds of each that is shown
pub shown_holds : (P : Label → Type 0) (ls : List Label) (i : ℕ) (l : Label) → All P ls → slice_get (shown ls) i ≡ Some l → P l
shown_holds P ls i l h e = subst P (get_or_from_slice_get (shown ls) i l l e) (all_shown P ls h i l (slice_get_within (shown ls) i l e))
