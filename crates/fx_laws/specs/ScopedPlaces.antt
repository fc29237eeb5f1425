-- Places whose clean-ups use each name as what it is, as those of a script's fibers do.
use Rattle.std.specs.Prelude.{ℕ, Option, List, [], ◌∷◌}
use Rattle.fx_term.specs.declared.name_kind.NameKind.{NameKind}
use Rattle.fx_term.specs.Term.{Term, OnCancel}
use Rattle.fx_term.specs.Scope.{IsScoped}
use Rattle.fx_model.specs.Path.{cleanups_along}
use Rattle.fx_model.specs.Step.{AreAll}
use Rattle.fx_laws.specs.Everywhere.{Place, InTerm, InCleanup, ShowTheSameAt}

-- in some scope each name of the term is of its kind
abbrev pub IsWellScoped : Term → Type 0
IsWellScoped t = (scope : ℕ → Option NameKind) × IsScoped scope t

-- the clean-ups that stand round the place are such terms. In a clean-up nothing is canceled, so none of them runs that stands in it
abbrev pub HasScopedCleanups : Place → Type 0
HasScopedCleanups (InTerm fs) = AreAll IsWellScoped (cleanups_along fs)
HasScopedCleanups (InCleanup k rest fs) = Unit {0}

-- two terms show the same at each such place
abbrev pub ShowTheSameWhereScoped : Term → Term → Type 0
ShowTheSameWhereScoped t u = (place : Place) → HasScopedCleanups place → ShowTheSameAt place t u

-- the term with these finalizers round it, the outermost first
abbrev pub with_finalizers : List Term → Term → Term
with_finalizers [] t = t
with_finalizers (g ∷ gs) t = OnCancel (with_finalizers gs t) g
