-- A text is read exactly where it is a schedule.
use Rattle.std.proofs.Common.{◌≡◌, ◌↔◌, ℕ, zero, suc, ◌<◌, ◌≤◌, nat_lt, Bool, true, false, cond, IfOk, Result, Ok, Err, Vec, Global, List, [], ◌∷◌}
use Rattle.std.proofs.Common.{◌++◌, length, refl, ap, ◌∙◌, subst, arith, length-append}
use Rattle.std.proofs.lemmas.Bool.{ltb-false, le-ltb}
use Rattle.fx_text.specs.declared.pick.Pick.{Pick}
use Rattle.fx_text.specs.declared.fault.TextFault.{TextFault}
use Rattle.fx_text.specs.declared.fault.TextKind.TheVariants as kind
use Rattle.fx_text.specs.Limits.{most_schedule_bytes, most_picks}
use Rattle.fx_text.specs.Token.{is_space, after_spaces}
use Rattle.fx_text.specs.Reading.{◌>>=◌, at_offset}
use Rattle.fx_text.specs.Schedule.{IsWord, SpellsPicks, nothing, space, word, IsSchedule, pick_at, picks_at, schedule_reading}
use Rattle.fx_text.specs.View.{Answers}
use Rattle.fx_text.proofs.PartLaws.{bind_ok}
use Rattle.fx_text.proofs.ScriptLaws.{offset_ok}
use Rattle.fx_text.proofs.WordLaws.{word_some, word_first, word_read, word_spelled}
use Rattle.fx_text.proofs.PicksLaws.{after, picks_more}

-- ---- what is read is in the grammar

spaces_spelled : (text : List ℕ) (ps : List Pick) → SpellsPicks (after_spaces text) ps → SpellsPicks text ps
spaces_spelled [] ps d = d
spaces_spelled (b ∷ bytes) ps d = by_space (is_space b) refl d (spaces_spelled bytes ps)
  where
    by_space : (is : Bool) → is_space b ≡ is → SpellsPicks (cond is (after_spaces bytes) (b ∷ bytes)) ps
        → (SpellsPicks (after_spaces bytes) ps → SpellsPicks bytes ps) → SpellsPicks (b ∷ bytes) ps
    by_space true e d more = space e (more d)
    by_space false e d more = d

-- the picks are spelled, and no more than these may come
record AreSpelled (left : ℕ) (text : List ℕ) (ps : List Pick) : Type 0 where
  few : length ps ≤ left
  spells : SpellsPicks text ps

picks_spelled : (left : ℕ) (text : List ℕ) (ps : List Pick) → picks_at left text ≡ Ok ps → AreSpelled left text ps
unfolding picks_at
picks_spelled left [] [] e = record { few = omega arith; spells = nothing }
picks_spelled left [] (p ∷ ps) e = absurd cc
picks_spelled zero (b ∷ bytes) ps e = absurd cc
picks_spelled (suc left) (b ∷ bytes) ps e =
    let one = bind_ok (pick_at (b ∷ bytes)) (λ x. picks_at left (after_spaces x.1) >>= λ others. Ok (x.0 ∷ others)) ps e in
    let others = bind_ok (picks_at left (after_spaces one.0.1)) (λ others. Ok (one.0.0 ∷ others)) ps one.2 in
    let all : one.0.0 ∷ others.0 ≡ ps = cc in
    let more = picks_spelled left (after_spaces one.0.1) others.0 others.1 in
    let w = word_spelled (b ∷ bytes) one.0.1 one.0.0 one.1 in
    subst (λ (l : List Pick). AreSpelled (suc left) (b ∷ bytes) l) all (record {
      few = let few = more.few in omega arith;
      spells = word w.own one.0.1 w.is w.ends (spaces_spelled one.0.1 others.0 more.spells) w.whole;
    })

-- ---- what is in the grammar is read

no_space_first : (own rest : List ℕ) (p : Pick) → IsWord own p → after_spaces (own ++ rest) ≡ own ++ rest
no_space_first [] rest p w = absurd (let h = word_some [] p w in omega arith)
no_space_first (b ∷ bytes) rest p w = rw (word_first b bytes p w) refl

picks_read : (text : List ℕ) (ps : List Pick) → SpellsPicks text ps → (left : ℕ) → length ps ≤ left → picks_at left (after_spaces text) ≡ Ok ps
unfolding picks_at
picks_read _ _ nothing left few = refl
picks_read _ ps (space {text = text} e d) left few = rw e (picks_read text ps d left few)
picks_read _ _ (word own rest w ends d whole) zero few = absurd (omega arith)
picks_read all _ (word {p = p} {ps = ps} own rest w ends d whole) (suc left) few =
    let some : 0 < length (own ++ rest) = let h = word_some own p w in omega (arith, length-append own rest) in
    let others = picks_read rest ps d left (omega arith) in
    let one = picks_more (own ++ rest) some left p rest (word_read own rest p w ends) in
    ap (λ (l : List ℕ). picks_at (suc left) (after_spaces l)) whole ∙ ap (picks_at (suc left)) (no_space_first own rest p w) ∙ one
    ∙ ap (after (p ∷ [])) others

module _ (text : List ℕ) (ps : List Pick) where
  schedule_sound : schedule_reading text ≡ Ok ps → IsSchedule text ps
  schedule_sound e = by_length (nat_lt most_schedule_bytes (length text)) refl e
    where
      by_length : (b : Bool) → nat_lt most_schedule_bytes (length text) ≡ b
          → cond {A = Result (List Pick) TextFault} b (Err (record { kind = kind.Length; at = most_schedule_bytes }))
          (at_offset (length text) (picks_at most_picks (after_spaces text))) ≡ Ok ps → IsSchedule text ps
      by_length true p e = absurd cc
      by_length false p e =
          let d = picks_spelled most_picks (after_spaces text) ps (offset_ok (length text) _ ps e) in
          record { short = ltb-false _ _ p; few = d.few; spells = spaces_spelled text ps d.spells }

  schedule_complete : IsSchedule text ps → schedule_reading text ≡ Ok ps
  schedule_complete s =
      let short : nat_lt most_schedule_bytes (length text) ≡ false = le-ltb _ _ s.short in
      rw (short, picks_read text ps s.spells most_picks s.few) refl

-- reading gives exactly what the grammar has
pub schedule_law : (text : List ℕ) (ps : List Pick) → IsSchedule text ps ↔ (schedule_reading text ≡ Ok ps)
schedule_law text ps = (schedule_complete text ps, schedule_sound text ps)

-- an answer that is a text's is in the grammar
pub picks_found : (text : List ℕ) (r : Result (Vec Pick Global) TextFault) → Answers (λ picks. picks.items) r (schedule_reading text)
    → IfOk r (λ picks. IsSchedule text picks.items)
picks_found text (Ok picks) a = schedule_sound text picks.items a
picks_found text (Err f) a = tt

-- and where the text is a schedule, it is that schedule's
pub picks_only : (text : List ℕ) (r : Result (Vec Pick Global) TextFault) → Answers (λ picks. picks.items) r (schedule_reading text)
    → (ps : List Pick) → IsSchedule text ps → Answers (λ picks. picks.items) r (Ok ps)
picks_only text r a ps s = subst (λ (x : Result (List Pick) TextFault). Answers (λ (picks : Vec Pick Global). picks.items) r x) (schedule_complete text ps s) a
