use Rattle.std.proofs.Common.{rules, arith, refl, sym, ◌∙◌, subst}
use Rattle.fx_text.specs.declared.reader.Reader.{Reader}
use Rattle.fx_text.specs.Group.{OfResources}
use Rattle.fx_text.specs.Limits.{form_spares}
use Rattle.fx_text.specs.declared.reader.head.Head.{Head}
use Rattle.fx_text.specs.Reading.{group_at, parts_at}
use Rattle.fx_text.specs.ReaderState.{scope_of, ReadsTerm}
use Rattle.fx_text.specs.Head.{still}
use Rattle.fx_text.proofs.GroupLaws.{no_group}
use Rattle.fx_text.proofs.OpenLaws.{open_fails, open_unclosed, part_read}
use Rattle.fx_text.proofs.AheadLaws.{
  ongoing_first,
  ongoing_ready,
  ongoing_fails,
  can_go_on,
  past_fails,
  ongoing_next,
  can_make_whole,
  whole_read,
}
use Rattle.fx_text.proofs.ReaderLaws.{grows_append}
use Rattle.fx_text.proofs.ReadyLaws.{ready_more, ready_less, ready_after}
use Rattle.fx_text.proofs.BindLaws.{
  no_resource,
  unreleased,
  unclosed,
  resource_read,
  binds_ready,
  binds_none,
  binds_fails,
  binds_one,
  binds_more,
  list_fails,
  list_unclosed,
  list_read,
  unused,
  using_unclosed,
  using_means,
  using_went,
  still_below,
}
use Rattle.fx_text.proofs.ThroughLaws.{went_none, went_more, seq_fails, seq_unclosed, seq_read}
use Rattle.fx_text.proofs.reader.Reader.+terms.Goals as goal

pub term-returns-in_err-root : goal.term-returns-in_err-root
term-returns-in_err-root t c = let h = open_fails _ _ _ _ _ _ c.in_ok-opened.ensures _ c.in_err-root.ensures in search rules

pub term-returns-in_err-rest : goal.term-returns-in_err-rest
term-returns-in_err-rest t c = let h = open_unclosed _ _ _ _ _ _ c.in_ok-opened.ensures _ _ _ c.in_ok-root.ensures _ c.in_err-rest.ensures.read in search rules

pub term-returns : goal.term-returns
term-returns t c = part_read _ _ _ _ _ _ c.in_ok-opened.ensures _ _ _ c.in_ok-root.ensures _ c.outside-outside.result _ c.outside-outside.ensures.names
    c.outside-outside.ensures.place c.in_ok-rest.ensures.read c.in_ok-rest.ensures.leaves c.in_ok-rest.ensures.shorter

pub parts-returns-in_err-part : goal.parts-returns-in_err-part
parts-returns-in_err-part t c =
    let h = ongoing_fails _ _ _ _ _ _ _ _ c.loop-part.invariant c.requires.ready _ c.in_err-part.ensures in search rules

pub resource-returns-in_err-name-clause-read : goal.resource-returns-in_err-name-clause-read
resource-returns-in_err-name-clause-read t c = let h = no_resource _ _ _ _ c.in_err-name.ensures.read in search rules

pub resource-returns-in_err-release-clause-read : goal.resource-returns-in_err-release-clause-read
resource-returns-in_err-release-clause-read t c = let h = unreleased _ _ _ _ c.in_ok-name.ensures.inside c.in_ok-name.name _ c.in_ok-name.ensures.read _ _ _
    c.in_ok-acquire.ensures _ c.in_err-release.ensures in search rules

pub resource-returns-in_err-rest-clause-read : goal.resource-returns-in_err-rest-clause-read
resource-returns-in_err-rest-clause-read t c = let h = unclosed _ _ _ _ c.in_ok-name.ensures.inside c.in_ok-name.name _ c.in_ok-name.ensures.read _ _ _
    c.in_ok-acquire.ensures _ _ _ c.in_ok-release.ensures _ c.in_err-rest.ensures.read in search rules

pub parts-returns-in-Leaf : goal.parts-returns-in-Leaf
parts-returns-in-Leaf t c =
    let old = c.args.self.now in
    subst (λ (h : Head). ReadsTerm form_spares old c.leaf.new.self c.args.bytes.now
    (parts_at (group_at c.args.room) (still old.nodes.items h (scope_of old)) c.args.bytes.now) c.leaf.result) (sym c.in-Leaf.is)
    (c.leaf.ensures (group_at c.args.room))

pub parts-loop-part-init : goal.parts-loop-part-init
parts-loop-part-init t c = ongoing_first _ _ _ _ _ _ c.requires.ready.made c.in-Part.is c.requires.fits

pub parts-returns-in_err-ahead : goal.parts-returns-in_err-ahead
parts-returns-in_err-ahead t c =
    let h = past_fails _ _ _ _ _ _ _ _ c.loop-part.invariant c.requires.ready _ _ _ c.in_ok-part.ensures _ c.in_err-ahead.ensures in search rules

pub parts-returns-in-End : goal.parts-returns-in-End
parts-returns-in-End t c = whole_read _ _ _ _ _ _ _ (ongoing_next _ _ _ _ _ _ _ _ c.loop-part.invariant c.requires.ready _ _ _ c.in_ok-part.ensures
    _ _ _ _ c.in-End.is c.in_ok-ahead.ensures) _ _ c.end_whole.ensures

pub parts-loop-part-preserved : goal.parts-loop-part-preserved
parts-loop-part-preserved t c = ongoing_next _ _ _ _ _ _ _ _ c.loop-part.invariant c.requires.ready _ _ _ c.in_ok-part.ensures
    _ _ _ _ c.in-Part-ahead.is c.in_ok-ahead.ensures

pub seq-loop-self-init : goal.seq-loop-self-init
seq-loop-self-init t c = went_none _ _ _ _ c.new-others.ensures.items c.in_ok-first.ensures.went.made

pub seq-returns-in_err-other : goal.seq-returns-in_err-other
seq-returns-in_err-other t c = let h = seq_fails _ _ _ _ _ _ _ _ _ c.in_ok-first.ensures c.loop-self.invariant c.in_err-other.field-0.0
    (sym c.is_closing.ensures ∙ c.loop-self-test.true) c.in_err-other.ensures in search rules

pub seq-loop-self-preserved : goal.seq-loop-self-preserved
seq-loop-self-preserved t c = went_more _ _ _ _ _ _ c.loop-self.invariant _ c.in_ok-other.other _ _ c.in_ok-push.ensures.items (sym c.is_closing.ensures
    ∙ c.loop-self-test.true) c.in_ok-other.ensures.read c.in_ok-other.ensures.went c.in_ok-other.ensures.grows

pub seq-returns-in_err-rest : goal.seq-returns-in_err-rest
seq-returns-in_err-rest t c = let h = seq_unclosed _ _ _ _ _ _ _ _ _ c.in_ok-first.ensures c.loop-self.invariant
    (sym c.is_closing.ensures ∙ c.loop-self-test.false) _ c.in_err-rest.ensures.read in search rules

pub seq-returns : goal.seq-returns
seq-returns t c = seq_read _ _ _ _ _ _ _ _ _ c.in_ok-first.ensures c.loop-self.invariant (sym c.is_closing.ensures ∙ c.loop-self-test.false)
    _ _ _ c.in_ok-rest.ensures.read c.in_ok-rest.ensures.shorter c.in_ok-in_order.ensures

pub resource-returns-clause-read : goal.resource-returns-clause-read
resource-returns-clause-read t c = resource_read _ _ _ _ c.in_ok-name.ensures.inside c.in_ok-name.name _ c.in_ok-name.ensures.read _ _ _
    c.in_ok-acquire.ensures _ _ _ c.in_ok-release.ensures (record {
      name = c.in_ok-name.name;
      slot = c.len-slot.result;
      acquire = c.in_ok-acquire.acquire;
      release = c.in_ok-release.release;
    }) _ refl (omega (arith, c.len-slot.ensures, c.args.self.now.names.ok.0)) refl refl c.in_ok-rest.ensures.read

pub resource-returns-clause-grows : goal.resource-returns-clause-grows
resource-returns-clause-grows t c = grows_append _ _ _ _ _ c.in_ok-acquire.ensures.grows c.in_ok-release.ensures.grows

pub resources-returns-then-room-eq0-clause-read : goal.resources-returns-then-room-eq0-clause-read
resources-returns-then-room-eq0-clause-read t c = no_group _ OfResources _ _ _ c.if-room-eq0.true c.too_deep.ensures

pub resources-loop-resources-init : goal.resources-loop-resources-init
resources-loop-resources-init t c = binds_none _ _ _ _ c.new-resources.ensures.items c.requires.made

pub resources-returns-in_err-resource-clause-read : goal.resources-returns-in_err-resource-clause-read
resources-returns-in_err-resource-clause-read t c = let h = list_fails _ _ _ _ (omega (arith, c.if-room-eq0.false)) c.in_ok-rest.ensures.read _
    (binds_fails _ _ _ _ _ _ _ c.loop-resources.invariant c.in_err-resource.ensures.read) in search rules

pub resources-loop-resources-preserved : goal.resources-loop-resources-preserved
resources-loop-resources-preserved t c = binds_more _ _ _ _ _ _ (sym c.is_closing.ensures
    ∙ c.if-is_closing.false) (binds_one _ _ c.loop-resources.self c.resource.new.self _ _ _ c.in_ok-resource.resource _ _ _ c.loop-resources.invariant
    c.in_ok-resource.ensures.read c.in_ok-resource.ensures.went c.in_ok-resource.ensures.grows c.in_ok-resource.ensures.shorter c.in_ok-push.ensures.items refl
    refl refl c.in_ok-push-2.ensures.items c.requires.outside)

pub resources-returns-in_err-rest-2-clause-read : goal.resources-returns-in_err-rest-2-clause-read
resources-returns-in_err-rest-2-clause-read t c = let new : Reader = record {
  alloc = c.resource.new.self.alloc;
  names = c.push.new.self;
  place = c.resource.new.self.place;
  nodes = c.resource.new.self.nodes;
  needs = c.resource.new.self.needs;
} in
    let h = list_unclosed _ _ new _ _ _ _ (omega (arith, c.if-room-eq0.false)) c.in_ok-rest.ensures.read (sym c.is_closing.ensures
    ∙ c.if-is_closing.true) (binds_one _ _ c.loop-resources.self c.resource.new.self _ _ _ c.in_ok-resource.resource _ _ _ c.loop-resources.invariant
    c.in_ok-resource.ensures.read c.in_ok-resource.ensures.went c.in_ok-resource.ensures.grows c.in_ok-resource.ensures.shorter c.in_ok-push.ensures.items refl
    refl refl c.in_ok-push-2.ensures.items c.requires.outside) _ c.in_err-rest-2.ensures.read in search rules

pub resources-returns : goal.resources-returns
resources-returns t c =
    let new : Reader = record {
      alloc = c.resource.new.self.alloc;
      names = c.push.new.self;
      place = c.resource.new.self.place;
      nodes = c.resource.new.self.nodes;
      needs = c.resource.new.self.needs;
    } in
    let h = list_read _ _ new _ _ _ _ (omega (arith, c.if-room-eq0.false)) c.in_ok-rest.ensures.read (sym c.is_closing.ensures
    ∙ c.if-is_closing.true) (binds_one _ _ c.loop-resources.self c.resource.new.self _ _ _ c.in_ok-resource.resource _ _ _ c.loop-resources.invariant
    c.in_ok-resource.ensures.read c.in_ok-resource.ensures.went c.in_ok-resource.ensures.grows c.in_ok-resource.ensures.shorter c.in_ok-push.ensures.items
    refl refl refl c.in_ok-push-2.ensures.items c.requires.outside) _ c.in_ok-rest-2.ensures.read c.in_ok-rest.ensures.shorter c.in_ok-rest-2.ensures.shorter in
    record { read = h.read; binds = h.binds; grows = h.grows }

pub using-returns-in_err-used : goal.using-returns-in_err-used
using-returns-in_err-used t c =
    let h = unused _ _ _ _ _ _ c.in_ok-resources.ensures.binds c.in_ok-resources.ensures.read c.requires.outside _ c.in_err-used.ensures in
    search rules

pub using-returns-in_err-rest : goal.using-returns-in_err-rest
using-returns-in_err-rest t c =
    let h = using_unclosed _ _ _ _ _ _ c.in_ok-resources.ensures.binds c.in_ok-resources.ensures.read c.requires.outside _ _ c.in_ok-used.ensures.read
    _ c.in_err-rest.ensures.read in search rules

pub using-nested-requires-clause-below : goal.using-nested-requires-clause-below
using-nested-requires-clause-below t c = still_below _ _ _ _ _ _ _ _ c.in_ok-resources.ensures.binds c.in_ok-used.ensures.went

pub using-returns : goal.using-returns
using-returns t c =
    let grows = c.in_ok-nested.ensures.grows _ (grows_append _ _ _ _ _ c.in_ok-resources.ensures.grows c.in_ok-used.ensures.grows) in
    record {
      read = using_means _ _ _ _ _ _ _ _ _ _ _ _ _ c.in_ok-resources.ensures.binds c.in_ok-used.ensures.went c.in_ok-nested.ensures
          (record { names_left = c.truncate.ensures.items; place = refl; nodes = refl }) (omega (arith, c.len-outside.ensures, c.args.self.now.names.ok.0))
          c.in_ok-rest.ensures.shorter _ c.requires.outside c.in_ok-resources.ensures.read c.in_ok-used.ensures.read c.in_ok-rest.ensures.read;
      went = using_went _ _ _ _ _ _ _ _ _ _ _ _ _ c.in_ok-resources.ensures.binds c.in_ok-used.ensures.went c.in_ok-nested.ensures
          (record { names_left = c.truncate.ensures.items; place = refl; nodes = refl }) (omega (arith, c.len-outside.ensures, c.args.self.now.names.ok.0))
          c.in_ok-rest.ensures.shorter grows;
      grows = grows;
    }

-- ---- what is wanted of a call: that the recursion comes to its end, and that the reader is ready

pub term-parts-requires : goal.term-parts-requires
term-parts-requires t c = (omega (arith, c.in_ok-opened.ensures.less), (c.in_ok-opened.ensures.ready, c.in_ok-opened.ensures.fits))

pub parts-seq-requires : goal.parts-seq-requires
parts-seq-requires t c = (omega arith, ready_less _ _ _ c.requires.ready)

pub parts-using-requires : goal.parts-using-requires
parts-using-requires t c = (omega arith, ready_less _ _ _ c.requires.ready)

pub parts-term-requires : goal.parts-term-requires
parts-term-requires t c =
    (omega arith, (ongoing_ready _ _ _ _ _ _ _ _ c.loop-part.invariant c.requires.ready, c.loop-part.invariant.fits.0))

pub parts-go_on-requires : goal.parts-go_on-requires
parts-go_on-requires t c = can_go_on _ _ _ _ _ _ _ _ c.loop-part.invariant c.requires.ready _ _ _ c.in_ok-part.ensures

pub parts-end_whole-requires : goal.parts-end_whole-requires
parts-end_whole-requires t c = can_make_whole _ _ _ _ _ _ _ (ongoing_next _ _ _ _ _ _ _ _ c.loop-part.invariant c.requires.ready _ _ _ c.in_ok-part.ensures
    _ _ _ _ c.in-End.is c.in_ok-ahead.ensures) c.requires.ready

pub seq-term-requires : goal.seq-term-requires
seq-term-requires t c = (omega arith, (c.requires, tt))

pub using-resources-requires : goal.using-resources-requires
using-resources-requires t c = (omega arith, c.requires)

pub using-term-requires : goal.using-term-requires
using-term-requires t c = (omega arith, (binds_ready _ _ _ _ _ c.requires c.in_ok-resources.ensures.binds, tt))

pub resource-term-requires : goal.resource-term-requires
resource-term-requires t c =
    (omega (arith, c.in_ok-name.ensures.inside), (ready_more 0 0 _ _ _ c.requires (omega (arith, c.in_ok-name.ensures.shorter)), tt))

pub resource-term-requires-2 : goal.resource-term-requires-2
resource-term-requires-2 t c = (
  omega (arith, c.in_ok-name.ensures.inside),
  (
    ready_after 2 _ _ _ _ _ (ready_more 0 2 _ _ c.in_ok-name.rest.now c.requires (omega (arith, c.in_ok-name.ensures.shorter)))
        c.in_ok-acquire.ensures.went,
    tt,
  ),
)

pub resources-resource-requires : goal.resources-resource-requires
resources-resource-requires t c = (
  omega (arith, c.if-room-eq0.false),
  binds_ready _ _ _ _ _ (ready_more 0 0 _ _ c.in_ok-rest.rest.now c.requires (omega (arith, c.in_ok-rest.ensures.shorter)))
      c.loop-resources.invariant.binds,
)
