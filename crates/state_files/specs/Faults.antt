-- Why a state file is refused. Source: profile.
use Rattle.std.specs.Prelude.{◌≡◌, Option, Some, None, Result, Ok, Err}
use Rattle.sqlite_image.specs.declared.fault.KeepFault.{KeepFault}
use Rattle.sqlite_image.specs.declared.fault.KeepFault.TheVariants as keep
use Rattle.end_images.specs.declared.fault.ImageFault.{ImageFault}
use Rattle.end_images.specs.declared.fault.ImageFault.TheVariants as image
use Rattle.state_files.specs.declared.fault.StateFault.{StateFault}
use Rattle.state_files.specs.declared.fault.StateFault.TheVariants as state

-- the fault that one of the file is told as
abbrev pub keep_fault : KeepFault → StateFault
keep_fault keep.InUse = state.InUse
keep_fault keep.NotOurs = state.NotOurs
keep_fault (keep.Newer version) = state.Newer version
keep_fault (keep.Older version) = state.Older version
keep_fault keep.Damaged = state.Damaged
keep_fault (keep.Unreachable why) = state.Unreachable why
keep_fault keep.Full = state.Full
keep_fault keep.OutOfMemory = state.OutOfMemory
keep_fault keep.Failed = state.Failed

-- the fault is one of the file, as it is told
abbrev pub IsOfFile : StateFault → Type 0
IsOfFile fault = (kept : KeepFault) × (fault ≡ keep_fault kept)

-- the fault that one of the image is told as
abbrev pub image_fault : ImageFault → StateFault
image_fault (image.Newer version) = state.Newer version
image_fault image.OtherEnd = state.OtherEnd
image_fault image.Damaged = state.Damaged
image_fault image.OutOfMemory = state.OutOfMemory

-- why a save failed, the first that did, once one more went so
abbrev pub noted : Result (Unit {0}) KeepFault → (before : Option KeepFault) → Option KeepFault
noted saved (Some fault) = Some fault
noted (Ok done) None = None
noted (Err failed) None = Some failed
