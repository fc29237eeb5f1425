use Rattle.std.proofs.Common.{rules, refl}
use Rattle.fx_text.specs.declared.reader.Reader.{Reader}
use Rattle.fx_term.specs.declared.name_kind.NameKind.TheVariants as kind
use Rattle.fx_text.proofs.OpenLaws.{went_in_outcome, no_outcome}
use Rattle.fx_text.proofs.reader.Reader.outcome.Goals as goal

pub returns-in_err-name : goal.returns-in_err-name
returns-in_err-name c = let h = no_outcome _ _ _ _ c.in_err-name.ensures.read in search rules

pub returns : goal.returns
returns c =
    let new : Reader = record c.args.self.now { names = c.push.new.self } in
    went_in_outcome c.args.room c.args.self.now new (record { name = c.in_ok-name.name; kind = kind.Value }) c.args.bytes.now
    c.in_ok-name.room c.in_ok-name.rest.now c.requires c.in_ok-name.ensures.read c.in_ok-name.ensures.inside
    c.in_ok-name.ensures.shorter refl c.in_ok-push.ensures.items refl refl refl
