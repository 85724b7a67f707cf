-- What is said of a state that can't be had (profile).
use Rattle.std.specs.Prelude.{◌≡◌, ◌++◌, ℕ, List, codes, Option, Some, None, Result, Ok, Err}
use Rattle.rds_store.specs.Fault.{name_of}
use Rattle.sqlite_image.specs.Paths.{path_text}
use Rattle.state_files.specs.declared.fault.StateFault.{StateFault}
use Rattle.state_files.specs.declared.fault.StateFault.TheVariants as state
use Rattle.notices.specs.Told.{Told, Says}

-- What is said of a state that can't be had.
abbrev pub state_text : StateFault → List ℕ
state_text state.InUse = codes "state in use"
state_text state.NotOurs = codes "state is not ours"
state_text (state.Newer version) = codes "state is of a later version"
state_text (state.Older version) = codes "state is of an earlier version"
state_text state.OtherEnd = codes "state is of the other end"
state_text state.Damaged = codes "state damaged"
state_text state.OtherAddress = codes "state is of another address"
state_text state.OtherSets = codes "state is of another number of data sets"
state_text state.OtherServices = codes "state is of other services"
state_text (state.Store fault) = name_of fault
state_text (state.Unreachable why) = codes "state out of reach"
state_text state.Full = codes "no room for the state"
state_text state.OutOfMemory = codes "out of memory"
state_text state.Replaced = codes "state failed"
state_text state.Failed = codes "state failed"

-- why that is so, where there is more to say
abbrev pub why_text : StateFault → Option (List ℕ)
why_text (state.Unreachable why) = Some (path_text why)
why_text state.Replaced = Some (codes "it was removed, moved or replaced")
why_text state.Failed = Some (codes "the disk failed")
why_text fault = None

-- the line that says so of the file at this path, and why, where that is known
abbrev pub file_line : (text path : List ℕ) → (why : Option (List ℕ)) → List ℕ
file_line text path None = codes "uecp: " ++ (text ++ (codes ": " ++ (path ++ codes "\n")))
file_line text path (Some why) =
    codes "uecp: " ++ (text ++ (codes ": " ++ (path ++ (codes ": " ++ (why ++ codes "\n")))))

-- the line of a fault of the state at this path
abbrev pub fault_line : (path : List ℕ) → StateFault → List ℕ
fault_line path fault = file_line (state_text fault) path (why_text fault)

-- ---- The end of a run.

-- how the close of a state went
abbrev pub Closed : Type 0
Closed = Result (Unit {0}) StateFault

-- A run ended with a status, and its state was then closed so. Where that went well the status stays, and nothing is
-- said; else the status is 3, and of the file it is said why.
abbrev pub IsClosed : (path : List ℕ) → (status : ℕ) → Closed → (status' : ℕ) → (told told' : Told)
    → Type 0
IsClosed path status (Ok done) status' told told' = (status' ≡ status) × (told' ≡ told)
IsClosed path status (Err fault) status' told told' = (status' ≡ 3) × Says told told' (fault_line path fault)
