-- The laws of what others see, with numbers for the names of their terms.
use Rattle.std.proofs.Common.{◌≡◌, ◌≢◌, ℕ, ◌==◌, Bool, true, false, Option, Some, None, List, sym, ◌∙◌, ap, arith}
use Rattle.std.specs.Prelude.{is_none}
use Rattle.std.proofs.lemmas.Bool.{ne_eqb}
use Rattle.fx_term.specs.declared.event.Event.{Event}
use Rattle.fx_term.specs.declared.name_kind.NameKind.{NameKind}
use Rattle.fx_term.specs.declared.name_kind.NameKind.TheVariants as kind
use Rattle.fx_term.specs.declared.node.Arg.TheVariants.{Number, Slot}
use Rattle.fx_term.specs.Need.{need}
use Rattle.fx_term.specs.Scope.{with_name, with_named, elsewhere, IsNew, IsScoped}
use Rattle.fx_term.specs.Term.{Term, Pure, Raise, Canceled, Let, Handle, Mask, Poll, OnCancel, Bracket, put}
use Rattle.fx_model.specs.MaskLaws.{IsPlain, forced_after}
use Rattle.fx_laws.specs.Names.{without_names}
use Rattle.fx_script_laws.specs.Interchange.{put_each}
use Rattle.fx_script_laws.proofs.EachFollows.{numbered}
use Rattle.fx_script_laws.proofs.PutNeeds.{put_need}
use Rattle.fx_look_laws.specs.FibersLookAlike.{EndsLikeAllOf, LooksLikeAllWithNumbers, of_any, of_any_but_alone}
use Rattle.fx_look_laws.specs.OtherFibers.{not_in}
use Rattle.fx_look_laws.proofs.PlainPuts.{IsThere, there_under, there_first, put_stays_scoped, put_stays_plain}
use Rattle.fx_look_laws.proofs.LookLaws.{mask_after, mask_before, order_masked, order_finalized, bracket_as_mask, mask_as_bracket}

-- what holds of each pair of a kind that numbers for names stay in
module _ (is_so : Bool → List Event → Bool) (own : ℕ → Bool) (Pair : Term → Term → Type 0)
    (puts : (x n : ℕ) (t u : Term) → own x ≡ false → Pair t u → Pair (put x n t) (put x n u)) (needs : (t u : Term) → Pair t u → need t ≡ need u)
    (ends : (t u : Term) → Pair t u → EndsLikeAllOf is_so u t) where
  looks_with_numbers : (t u : Term) → Pair t u → LooksLikeAllWithNumbers is_so own t u
  looks_with_numbers t u p =
      record {
        needs = λ numbers h. needs (put_each numbers t) (put_each numbers u) (numbered own Pair puts numbers h t u p);
        looks = λ numbers h. ends (put_each numbers t) (put_each numbers u) (numbered own Pair puts numbers h t u p);
      }

module _ (scope : ℕ → Option NameKind) where
  -- as where a fiber begins, with one name that is not used
  abbrev begun : ℕ → ℕ → Option NameKind
  begun p = with_name p kind.OtherPoll (elsewhere scope)

  begun_there : (p x : ℕ) → not_in scope x ≡ false → IsThere (begun p) x
  begun_there p x e = there_under (elsewhere scope) x p kind.OtherPoll (λ h. h) (there_first scope x e)

  -- a fiber that cancels itself first in a mask, and one that does so after it
  data IsOfMask : Term → Term → Type 0 where
    of_mask : (p : ℕ) (a : Term) → IsPlain a → IsScoped (begun p) a → IsOfMask (Mask p (Let None Canceled a)) (forced_after (Mask p a) Canceled)

  mask_puts : (x n : ℕ) (t u : Term) → not_in scope x ≡ false → IsOfMask t u → IsOfMask (put x n t) (put x n u)
  mask_puts x n t u free (of_mask p a plain scoped) =
      let there = begun_there p x free in
      of_mask p (put x n a) (put_stays_plain (begun p) x n there a scoped plain) (put_stays_scoped (begun p) x n there a scoped)

  mask_needs : (t u : Term) → IsOfMask t u → need t ≡ need u
  mask_needs t u (of_mask p a plain scoped) = omega arith

  mask_ends : (t u : Term) → IsOfMask t u → EndsLikeAllOf of_any u t
  mask_ends t u (of_mask p a plain scoped) = mask_after (elsewhere scope) p a plain scoped

  mask_ends_back : (t u : Term) → IsOfMask u t → EndsLikeAllOf of_any u t
  mask_ends_back t u (of_mask p a plain scoped) = mask_before (elsewhere scope) p a plain scoped

  module _ (p : ℕ) (a : Term) (plain : IsPlain a) (scoped : IsScoped (with_name p kind.OtherPoll (elsewhere scope)) a) where
    pub cancels_after : LooksLikeAllWithNumbers of_any (not_in scope) (Mask p (Let None Canceled a)) (forced_after (Mask p a) Canceled)
    cancels_after = looks_with_numbers of_any (not_in scope) IsOfMask mask_puts mask_needs mask_ends _ _ (of_mask p a plain scoped)

    pub cancels_before : LooksLikeAllWithNumbers of_any (not_in scope) (forced_after (Mask p a) Canceled) (Mask p (Let None Canceled a))
    cancels_before =
        looks_with_numbers of_any (not_in scope) (λ t u. IsOfMask u t) (λ x n t u. mask_puts x n u t) (λ t u h. sym (mask_needs u t h)) mask_ends_back _ _
        (of_mask p a plain scoped)

  -- finalizers in order, and what they are in a mask
  data IsOfOrder : Term → Term → Type 0 where
    of_order : (p : ℕ) (f g : Term) → IsPlain f → IsPlain g → IsScoped (begun p) f → IsScoped (begun p) g
        → IsOfOrder (OnCancel (OnCancel Canceled f) g) (forced_after (Mask p (forced_after f g)) Canceled)

  order_puts : (x n : ℕ) (t u : Term) → not_in scope x ≡ false → IsOfOrder t u → IsOfOrder (put x n t) (put x n u)
  order_puts x n t u free (of_order p f g plain plain' scoped scoped') =
      let there = begun_there p x free in
      of_order p (put x n f) (put x n g) (put_stays_plain (begun p) x n there f scoped plain) (put_stays_plain (begun p) x n there g scoped' plain')
      (put_stays_scoped (begun p) x n there f scoped) (put_stays_scoped (begun p) x n there g scoped')

  order_needs : (t u : Term) → IsOfOrder t u → need t ≡ need u
  order_needs t u (of_order p f g plain plain' scoped scoped') = omega arith

  order_ends : (t u : Term) → IsOfOrder t u → EndsLikeAllOf of_any u t
  order_ends t u (of_order p f g plain plain' scoped scoped') = order_masked (elsewhere scope) p f g plain plain' scoped scoped'

  order_ends_back : (t u : Term) → IsOfOrder u t → EndsLikeAllOf of_any_but_alone u t
  order_ends_back t u (of_order p f g plain plain' scoped scoped') = order_finalized (elsewhere scope) p f g plain plain' scoped scoped'

  module _ (p : ℕ) (f g : Term) (plain : IsPlain f) (plain' : IsPlain g) (scoped : IsScoped (with_name p kind.OtherPoll (elsewhere scope)) f)
      (scoped' : IsScoped (with_name p kind.OtherPoll (elsewhere scope)) g) where
    pub in_a_mask : LooksLikeAllWithNumbers of_any (not_in scope) (OnCancel (OnCancel Canceled f) g) (forced_after (Mask p (forced_after f g)) Canceled)
    in_a_mask = looks_with_numbers of_any (not_in scope) IsOfOrder order_puts order_needs order_ends _ _ (of_order p f g plain plain' scoped scoped')

    pub in_finalizers : LooksLikeAllWithNumbers of_any_but_alone (not_in scope) (forced_after (Mask p (forced_after f g)) Canceled)
        (OnCancel (OnCancel Canceled f) g)
    in_finalizers =
        looks_with_numbers of_any_but_alone (not_in scope) (λ t u. IsOfOrder u t) (λ x n t u. order_puts x n u t) (λ t u h. sym (order_needs u t h))
        order_ends_back _ _
        (of_order p f g plain plain' scoped scoped')

  -- a bracket, and the mask that it is
  abbrev as_mask : ℕ → ℕ → ℕ → Option ℕ → Term → Term → Term → Term
  as_mask p y e x a u d =
      Mask p (Let x a
      (Let (Some y)
      (Handle (OnCancel (Poll (Slot p) u) d) (Some e) (Let None (Handle d None (Pure (Number 0))) (Raise (Slot e))))
      (Let None d (Pure (Slot y)))))

  abbrev without : ℕ → ℕ → ℕ → ℕ → Option NameKind
  without p y e = without_names (elsewhere scope) p y e

  record IsBracketOf (p y e : ℕ) (x : Option ℕ) (a u d : Term) : Type 0 where
    pub new_p : scope p ≡ None
    pub new_y : scope y ≡ None
    pub new_e : scope e ≡ None
    pub p_y : p ≢ y
    pub p_e : p ≢ e
    pub new_x : IsNew (without p y e) x
    pub plain_a : IsPlain a
    pub plain_u : IsPlain u
    pub plain_d : IsPlain d
    pub scoped_a : IsScoped (without p y e) a
    pub scoped_u : IsScoped (with_named x kind.Value (without p y e)) u
    pub scoped_d : IsScoped (with_named x kind.Value (without p y e)) d
    pub starts_none : need d ≡ 0

  data IsOfBracket : Term → Term → Type 0 where
    of_bracket : (p y e : ℕ) (x : Option ℕ) (a u d : Term) → IsBracketOf p y e x a u d → IsOfBracket (Bracket x a u d) (as_mask p y e x a u d)

  there_named : (s : ℕ → Option NameKind) (z : ℕ) (x : Option ℕ) → IsThere s z → IsThere (with_named x kind.Value s) z
  there_named s z None h = h
  there_named s z (Some x) h = there_under s z x kind.Value (λ f. f) h

  without_there : (p y e z : ℕ) → not_in scope z ≡ false → IsThere (without p y e) z
  without_there p y e z free =
      let last = there_under (elsewhere scope) z e kind.OtherPoll (λ f. f) (there_first scope z free) in
      let inner = there_under (with_name e kind.OtherPoll (elsewhere scope)) z y kind.OtherPoll (λ f. f) last in
      there_under (with_name y kind.OtherPoll (with_name e kind.OtherPoll (elsewhere scope))) z p kind.OtherPoll (λ f. f) inner

  -- a name in scope is none that is not
  is_another : (z w : ℕ) → not_in scope z ≡ false → scope w ≡ None → (w == z) ≡ false
  is_another z w free none =
      ne_eqb w z (λ same. absurd (let k : true ≡ false = sym (ap is_none (sym (ap scope same) ∙ none)) ∙ free in cc))

  bracket_of_puts : (z n p y e : ℕ) (x : Option ℕ) (a u d : Term) → not_in scope z ≡ false → IsBracketOf p y e x a u d
      → IsBracketOf p y e x (put z n a) (put z n u) (put z n d)
  bracket_of_puts z n p y e x a u d free h =
      let there = without_there p y e z free in
      let inside = there_named (without p y e) z x there in
      let s = with_named x kind.Value (without p y e) in
      record {
        new_p = h.new_p;
        new_y = h.new_y;
        new_e = h.new_e;
        p_y = h.p_y;
        p_e = h.p_e;
        new_x = h.new_x;
        plain_a = put_stays_plain (without p y e) z n there a h.scoped_a h.plain_a;
        plain_u = put_stays_plain s z n inside u h.scoped_u h.plain_u;
        plain_d = put_stays_plain s z n inside d h.scoped_d h.plain_d;
        scoped_a = put_stays_scoped (without p y e) z n there a h.scoped_a;
        scoped_u = put_stays_scoped s z n inside u h.scoped_u;
        scoped_d = put_stays_scoped s z n inside d h.scoped_d;
        starts_none = put_need z n d ∙ h.starts_none;
      }

  bracket_puts : (z n : ℕ) (t u : Term) → not_in scope z ≡ false → IsOfBracket t u → IsOfBracket (put z n t) (put z n u)
  bracket_puts z n t u free (of_bracket p y e x a v d h) =
      let not_p = is_another z p free h.new_p in
      let not_y = is_another z y free h.new_y in
      let not_e = is_another z e free h.new_e in
      rw (not_p, not_y, not_e) (of_bracket p y e x (put z n a) (put z n v) (put z n d) (bracket_of_puts z n p y e x a v d free h))

  bracket_needs : (t u : Term) → IsOfBracket t u → need t ≡ need u
  bracket_needs t u (of_bracket p y e x a v d h) = let none = h.starts_none in omega (arith, none)

  bracket_ends : (t u : Term) → IsOfBracket t u → EndsLikeAllOf of_any u t
  bracket_ends t u (of_bracket p y e x a v d h) =
      bracket_as_mask (elsewhere scope) p y e x a v d h.p_y h.p_e h.new_x h.plain_a h.plain_u h.plain_d h.scoped_a h.scoped_u h.scoped_d

  bracket_ends_back : (t u : Term) → IsOfBracket u t → EndsLikeAllOf of_any_but_alone u t
  bracket_ends_back t u (of_bracket p y e x a v d h) =
      mask_as_bracket (elsewhere scope) p y e x a v d h.p_y h.p_e h.new_x h.plain_a h.plain_u h.plain_d h.scoped_a h.scoped_u h.scoped_d

  module _ (p y e : ℕ) (x : Option ℕ) (a u d : Term) (new_p : scope p ≡ None) (new_y : scope y ≡ None) (new_e : scope e ≡ None) (py : p ≢ y) (pe : p ≢ e)
      (new : IsNew (without_names (elsewhere scope) p y e) x) (pa : IsPlain a) (pu : IsPlain u) (pd : IsPlain d)
      (sa : IsScoped (without_names (elsewhere scope) p y e) a)
      (su : IsScoped (with_named x kind.Value (without_names (elsewhere scope) p y e)) u)
      (sd : IsScoped (with_named x kind.Value (without_names (elsewhere scope) p y e)) d) (none : need d ≡ 0) where
    bracket_of : IsBracketOf p y e x a u d
    bracket_of =
        record {
          new_p = new_p;
          new_y = new_y;
          new_e = new_e;
          p_y = py;
          p_e = pe;
          new_x = new;
          plain_a = pa;
          plain_u = pu;
          plain_d = pd;
          scoped_a = sa;
          scoped_u = su;
          scoped_d = sd;
          starts_none = none;
        }

    pub bracket_masked : LooksLikeAllWithNumbers of_any (not_in scope) (Bracket x a u d)
        (Mask p (Let x a
        (Let (Some y)
        (Handle (OnCancel (Poll (Slot p) u) d) (Some e) (Let None (Handle d None (Pure (Number 0))) (Raise (Slot e))))
        (Let None d (Pure (Slot y))))))
    bracket_masked =
        looks_with_numbers of_any (not_in scope) IsOfBracket bracket_puts bracket_needs bracket_ends _ _ (of_bracket p y e x a u d bracket_of)

    pub mask_bracketed : LooksLikeAllWithNumbers of_any_but_alone (not_in scope)
        (Mask p (Let x a
        (Let (Some y)
        (Handle (OnCancel (Poll (Slot p) u) d) (Some e) (Let None (Handle d None (Pure (Number 0))) (Raise (Slot e))))
        (Let None d (Pure (Slot y))))))
        (Bracket x a u d)
    mask_bracketed =
        looks_with_numbers of_any_but_alone (not_in scope) (λ t u. IsOfBracket u t) (λ x n t u. bracket_puts x n u t) (λ t u h. sym (bracket_needs u t h))
        bracket_ends_back _ _
        (of_bracket p y e x a u d bracket_of)
