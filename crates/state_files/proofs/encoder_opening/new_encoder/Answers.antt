use Rattle.std.proofs.Common.{inr, refl}
use Rattle.sqlite_image.specs.declared.fault.KeepFault.TheVariants as keep
use Rattle.state_files.proofs.encoder_opening.new_encoder.Goals as goal

pub returns-in-Err-OutOfMemory-clause-refused : goal.returns-in-Err-OutOfMemory-clause-refused
returns-in-Err-OutOfMemory-clause-refused c = inr (keep.OutOfMemory, refl)

pub returns-clause-refused : goal.returns-clause-refused
returns-clause-refused c = inr (keep.OutOfMemory, refl)
