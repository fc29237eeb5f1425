-- What a fiber's contexts leave to be done where it is canceled.
use Rattle.std.specs.Prelude.{List, [], ◌∷◌}
use Rattle.fx_frames.specs.declared.frame.Frame.{Frame}
use Rattle.fx_frames.specs.declared.frame.Frame.TheVariants.{OnCancel, Using, UsingCase}
use Rattle.fx_frames.specs.declared.cleanup.Cleanup.{Cleanup}
use Rattle.fx_frames.specs.declared.cleanup.Cleanup.TheVariants.{Finalizer, Release}

-- the clean-ups of these contexts, both the innermost first
abbrev pub cleanups_of : List Frame → List Cleanup
cleanups_of [] = []
cleanups_of (OnCancel f ∷ outer) = Finalizer f ∷ cleanups_of outer
cleanups_of (Using k r ∷ outer) = Release k r ∷ cleanups_of outer
cleanups_of (UsingCase k id r ∷ outer) = Release k r ∷ cleanups_of outer
cleanups_of (_ ∷ outer) = cleanups_of outer
