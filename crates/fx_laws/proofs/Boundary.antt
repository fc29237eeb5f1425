-- A finalizer inside a mask and one outside of it.
use Rattle.std.proofs.Common.{◌≡◌, None, List, [], ◌∷◌, refl, sym, ◌∙◌, ap, arith}
use Rattle.fx_term.specs.declared.node.Arg.TheVariants.{Number}
use Rattle.fx_term.specs.declared.done.Done.TheVariants.{Val}
use Rattle.fx_term.specs.declared.event.Event.TheVariants as event
use Rattle.fx_term.specs.Term.{Term, Pure, Mask, OnCancel, Offer, Finished}
use Rattle.fx_model.specs.Path.{Finalizer}
use Rattle.fx_model.specs.Row.{Counts, Label, Silent, Shows, Learns, Starts, known_canceled}
use Rattle.fx_model.specs.Row as rule
use Rattle.fx_model.specs.Step.{Runs, Unwinds, CleansUp, seen, cancelled, finalizer, cleans}
use Rattle.fx_model.specs.Run.{Leads, shown}
use Rattle.fx_model.specs.PutsLeft.{puts_made}
use Rattle.fx_model.specs.MaskLaws.{CanShow}
use Rattle.fx_model.proofs.MaskEntering.{counts_at}
use Rattle.fx_model.proofs.MaskLaws.{masked_finalizer}
use Rattle.fx_model.proofs.PutsLaws.{run_puts}
use Rattle.fx_laws.specs.Others.{visible, OthersCanSee, LookTheSame}

-- others see each put, and so does who sees all labels
puts_visible : (ls : List Label) → puts_made (visible ls) ≡ puts_made ls
puts_visible [] = refl
puts_visible (Silent ∷ ls) = let h = puts_visible ls in omega arith
puts_visible (Shows event.Seen ∷ ls) = let h = puts_visible ls in omega arith
puts_visible (Shows event.SelfRequest ∷ ls) = let h = puts_visible ls in omega arith
puts_visible (Shows event.Cancelled ∷ ls) = let h = puts_visible ls in omega arith
puts_visible (Shows (event.Acquired k) ∷ ls) = let h = puts_visible ls in omega arith
puts_visible (Shows (event.Begin k) ∷ ls) = let h = puts_visible ls in omega arith
puts_visible (Shows (event.End k) ∷ ls) = let h = puts_visible ls in omega arith
puts_visible (Shows e ∷ ls) = let h = puts_visible ls in cc
puts_visible (Learns f o e ∷ ls) = let h = puts_visible ls in cc
puts_visible (Starts f b ∷ ls) = let h = puts_visible ls in cc

puts_shown : (ls : List Label) → puts_made (shown ls) ≡ puts_made ls
puts_shown [] = refl
puts_shown (Silent ∷ ls) = let h = puts_shown ls in omega arith
puts_shown (Shows e ∷ ls) = let h = puts_shown ls in cc
puts_shown (Learns f o e ∷ ls) = let h = puts_shown ls in cc
puts_shown (Starts f b ∷ ls) = let h = puts_shown ls in cc

abbrev puts_one : Term
puts_one = Offer 0 (Number 1)

abbrev put_one : Label
put_one = Shows (event.Put 0 1)

-- no finalizer runs that stands in a mask
inside_puts_nothing : OthersCanSee (record { term = Mask 0 (OnCancel (Pure (Number 1)) puts_one); next = 1; end = 1 }) (put_one ∷ []) → ⊥
inside_puts_nothing h =
    let here : CanShow (record { term = Mask 0 (OnCancel (Pure (Number 1)) puts_one); next = 1; end = 1 }) (shown h.labels) =
    record { labels = h.labels; counts = h.counts; progress = h.progress; run = h.run; shown_is = refl } in
    let alone = (masked_finalizer (λ x. None) 0 (Pure (Number 1)) tt tt puts_one 1 1 (shown h.labels)).0 here in
    let few = run_puts (record { term = Mask 0 (Pure (Number 1)); next = 1; end = 1 }) alone.labels alone.counts alone.progress alone.run in
    let one : puts_made h.labels ≡ 1 = sym (puts_visible h.labels) ∙ ap puts_made h.visible_is in
    let same : puts_made alone.labels ≡ 1 = sym (puts_shown alone.labels) ∙ ap puts_made alone.shown_is ∙ puts_shown h.labels ∙ one in
    absurd (omega arith)

pub boundary_is_seen : LookTheSame (Mask 0 (OnCancel (Pure (Number 1)) (Offer 0 (Number 1)))) (OnCancel (Mask 0 (Pure (Number 1))) (Offer 0 (Number 1))) → ⊥
boundary_is_seen same =
    let c = counts_at 0 1 1 in
    let k = known_canceled c in
    let t = OnCancel (Mask 0 (Pure (Number 1))) puts_one in
    let puts_first : Leads c (Runs t) (Shows event.Seen ∷ Shows event.Cancelled ∷ Silent ∷ put_one ∷ []) k (CleansUp None (Finished (Val 0)) []) = (
      k,
      Runs t,
      seen refl refl,
      (
        k,
        Unwinds (Finalizer puts_one ∷ []),
        cancelled refl,
        (
          k,
          CleansUp None puts_one [],
          finalizer,
          (k, CleansUp None (Finished (Val 0)) [], cleans rule.offered, (refl, refl)),
        ),
      ),
    ) in
    let right : OthersCanSee (record { term = t; next = 1; end = 1 }) (put_one ∷ []) =
    record {
      labels = Shows event.Seen ∷ Shows event.Cancelled ∷ Silent ∷ put_one ∷ [];
      counts = k;
      progress = CleansUp None (Finished (Val 0)) [];
      run = puts_first;
      visible_is = refl;
    } in
    inside_puts_nothing ((same 1 1 (put_one ∷ [])).1 right)
