-- The laws of what others see of whole fibers: where the one ends, or waits, the other does.
use Rattle.std.proofs.Common.{◌≡◌, ◌≢◌, ℕ, true, false, Option, Some, None, List, refl, sym, ◌∙◌}
use Rattle.fx_term.specs.declared.name_kind.NameKind.{NameKind}
use Rattle.fx_term.specs.declared.name_kind.NameKind.TheVariants as kind
use Rattle.fx_term.specs.declared.node.Arg.TheVariants.{Number, Slot}
use Rattle.fx_term.specs.Scope.{with_name, with_named, IsNew, IsScoped}
use Rattle.fx_term.specs.Term.{Term, Pure, Raise, Canceled, Let, Handle, Mask, Poll, OnCancel, Bracket}
use Rattle.fx_model.specs.MaskLaws.{IsPlain, forced_after}
use Rattle.fx_model.specs.Row.{Counts, Label}
use Rattle.fx_model.specs.Run.{first_counts}
use Rattle.fx_model.specs.Step.{Progress, Runs}
use Rattle.fx_model.specs.Outside.{Outside, can_step}
use Rattle.fx_laws.specs.Names.{without_names}
use Rattle.fx_laws.proofs.BracketLaws.{bracket_looks_like_all, bracket_looks_the_same}
use Rattle.fx_laws.proofs.CanceledInMask.{canceled_in_mask}
use Rattle.fx_laws.proofs.CanceledInOrder.{in_order_looks_like_all, in_order_looks_the_same}
use Rattle.fx_script_laws.specs.Interchange.{StopsThere}
use Rattle.fx_look_laws.proofs.Blocked.{IsBlockedAt}
use Rattle.fx_look_laws.proofs.MaskedWaits.{waits_first, waits_second}
use Rattle.fx_look_laws.specs.FibersLookAlike.{CanEndSo, EndsLikeAllOf, of_any, of_ended, of_ended_but_alone, of_any_but_alone}
use Rattle.fx_look_laws.proofs.EndedLooks.{ended_like_all, ended_unless_back}
use Rattle.fx_look_laws.proofs.BracketWaits.{bracket_masked_waits, mask_bracketed_waits}
use Rattle.fx_look_laws.proofs.OrderWaits.{order_masked_waits, order_finalized_waits}
use Rattle.fx_look_laws.proofs.Requests.{can_same}
use Rattle.fx_look_laws.proofs.WaitsLike.{WaitsLike}

-- a fiber of any number waits as one of number 0 does that is requested where it is
module _ (o : Outside) (f : ℕ) where
  abbrev as_main : Outside
  as_main = record o { is_requested = λ g. o.is_requested f }

  waits_as_main : (c : Counts) (p : Progress) → can_step as_main 0 c p ≡ can_step o f c p
  waits_as_main c p = can_same o (λ g. o.is_requested f) f 0 refl c p

  blocked_as_main : (c : Counts) (p : Progress) → StopsThere o f false c p → IsBlockedAt as_main c p
  blocked_as_main c p h = record { goes_on = h.1; unable = waits_as_main c p ∙ h.0 }

  stops_as : (c : Counts) (p : Progress) → IsBlockedAt as_main c p → StopsThere o f false c p
  stops_as c p b = (sym (waits_as_main c p) ∙ b.unable, b.goes_on)

-- where one with the first term waits, one with the second does, too
abbrev WaitsToo : Term → Term → Type 0
WaitsToo t u =
    (o : Outside) (next end : ℕ)
    → WaitsLike o (first_counts (record { term = t; next = next; end = end })) (Runs t) (first_counts (record { term = u; next = next; end = end })) (Runs u)

waits_so : (t u : Term) → WaitsToo t u → (o : Outside) (f next end : ℕ) (ls : List Label)
    → CanEndSo (StopsThere o f false) (record { term = t; next = next; end = end }) ls
    → CanEndSo (StopsThere o f false) (record { term = u; next = next; end = end }) ls
waits_so t u waits o f next end ls h =
    let w = waits (as_main o f) next end h.labels h.counts h.progress h.run (blocked_as_main o f h.counts h.progress h.ends) in
    record {
      labels = w.labels;
      counts = w.counts;
      progress = w.progress;
      run = w.run;
      visible_is = w.visible_is ∙ h.visible_is;
      ends = stops_as o f w.counts w.progress w.blocked;
    }

ends_or_waits : (t u : Term) → EndsLikeAllOf of_ended u t → WaitsToo t u → EndsLikeAllOf of_any u t
ends_or_waits t u ended waits o f next end true ls so h = ended o f next end true ls refl h
ends_or_waits t u ended waits o f next end false ls so h = waits_so t u waits o f next end ls h

ends_or_waits_but_alone : (t u : Term) → EndsLikeAllOf of_ended_but_alone u t → WaitsToo t u → EndsLikeAllOf of_any_but_alone u t
ends_or_waits_but_alone t u ended waits o f next end true ls so h = ended o f next end true ls so h
ends_or_waits_but_alone t u ended waits o f next end false ls so h = waits_so t u waits o f next end ls h

module _ (scope : ℕ → Option NameKind) (p : ℕ) (a : Term) (plain : IsPlain a) (scoped : IsScoped (with_name p kind.OtherPoll scope) a) where
  pub mask_after : EndsLikeAllOf of_any (forced_after (Mask p a) Canceled) (Mask p (Let None Canceled a))
  mask_after =
      ends_or_waits (Mask p (Let None Canceled a)) (forced_after (Mask p a) Canceled)
      (ended_like_all _ _ (λ next end ls h. (canceled_in_mask scope p a plain scoped next end ls).0 h))
      (λ o next end. waits_second o scope p a plain scoped (first_counts (record { term = Mask p (Let None Canceled a); next = next; end = end })) refl)

  pub mask_before : EndsLikeAllOf of_any (Mask p (Let None Canceled a)) (forced_after (Mask p a) Canceled)
  mask_before =
      ends_or_waits (forced_after (Mask p a) Canceled) (Mask p (Let None Canceled a))
      (ended_like_all _ _ (λ next end ls h. (canceled_in_mask scope p a plain scoped next end ls).1 h))
      (λ o next end. waits_first o scope p a plain scoped (first_counts (record { term = forced_after (Mask p a) Canceled; next = next; end = end })) refl)

module _ (scope : ℕ → Option NameKind) (p : ℕ) (f g : Term) (plain : IsPlain f) (plain' : IsPlain g) (scoped : IsScoped (with_name p kind.OtherPoll scope) f)
    (scoped' : IsScoped (with_name p kind.OtherPoll scope) g) where
  pub order_masked : EndsLikeAllOf of_any (forced_after (Mask p (forced_after f g)) Canceled) (OnCancel (OnCancel Canceled f) g)
  order_masked =
      ends_or_waits (OnCancel (OnCancel Canceled f) g) (forced_after (Mask p (forced_after f g)) Canceled)
      (ended_like_all _ _ (in_order_looks_like_all scope p f g plain plain' scoped scoped'))
      (λ o next end. order_masked_waits o scope p f g plain plain' scoped scoped' next end)

  pub order_finalized : EndsLikeAllOf of_any_but_alone (OnCancel (OnCancel Canceled f) g) (forced_after (Mask p (forced_after f g)) Canceled)
  order_finalized =
      ends_or_waits_but_alone (forced_after (Mask p (forced_after f g)) Canceled) (OnCancel (OnCancel Canceled f) g)
      (ended_unless_back _ _ (in_order_looks_the_same scope p f g plain plain' scoped scoped'))
      (λ o next end. order_finalized_waits o scope p f g plain plain' scoped scoped' next end)

module _ (scope : ℕ → Option NameKind) (p y e : ℕ) (x : Option ℕ) (a u d : Term) (py : p ≢ y) (pe : p ≢ e) (new : IsNew (without_names scope p y e) x)
    (pa : IsPlain a) (pu : IsPlain u) (pd : IsPlain d) (sa : IsScoped (without_names scope p y e) a)
    (su : IsScoped (with_named x kind.Value (without_names scope p y e)) u) (sd : IsScoped (with_named x kind.Value (without_names scope p y e)) d) where
  abbrev as_mask : Term
  as_mask =
      Mask p (Let x a
      (Let (Some y)
      (Handle (OnCancel (Poll (Slot p) u) d) (Some e) (Let None (Handle d None (Pure (Number 0))) (Raise (Slot e))))
      (Let None d (Pure (Slot y)))))

  pub bracket_as_mask : EndsLikeAllOf of_any
      (Mask p (Let x a
      (Let (Some y)
      (Handle (OnCancel (Poll (Slot p) u) d) (Some e) (Let None (Handle d None (Pure (Number 0))) (Raise (Slot e))))
      (Let None d (Pure (Slot y))))))
      (Bracket x a u d)
  bracket_as_mask =
      ends_or_waits (Bracket x a u d) as_mask (ended_like_all _ _ (bracket_looks_like_all scope p y e x a u d py pe new pa pu pd sa su sd))
      (λ o next end. bracket_masked_waits o scope p y e x a u d py pe new pa pu pd sa su sd next end)

  pub mask_as_bracket : EndsLikeAllOf of_any_but_alone (Bracket x a u d)
      (Mask p (Let x a
      (Let (Some y)
      (Handle (OnCancel (Poll (Slot p) u) d) (Some e) (Let None (Handle d None (Pure (Number 0))) (Raise (Slot e))))
      (Let None d (Pure (Slot y))))))
  mask_as_bracket =
      ends_or_waits_but_alone as_mask (Bracket x a u d)
      (ended_unless_back _ _ (bracket_looks_the_same scope p y e x a u d py pe new pa pu pd sa su sd))
      (λ o next end. mask_bracketed_waits o scope p y e x a u d py pe new pa pu pd sa su sd next end)
