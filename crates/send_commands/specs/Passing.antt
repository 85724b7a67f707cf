-- Lines that are passed over, and where they are kept (profile).
use Rattle.std.specs.Prelude.{◌≡◌, ◌⊎◌, ℕ, ◌-◌, min, Bool, true, List, [], ◌∷◌, ◌++◌, length, take, drop, is_some}
use Rattle.std.specs.Prelude.{codes, decimal, Option, Some, None, Result, Ok, Err}
use Rattle.uecp_text.specs.Faults.{error_lines}
use Rattle.uecp_text.specs.Run.{fault_at}
use Rattle.notices.specs.Told.{Told, Says}
use Rattle.line_feed.specs.Lines.{HasEnd, Refusal}
use Rattle.line_feed.specs.declared.feed.Next.{Next}
use Rattle.line_feed.specs.declared.feed_fault.FeedFault.{FeedFault}
use Rattle.line_feed.specs.declared.feed_fault.NotKept.{NotKept}
use Rattle.send_commands.specs.declared.ledger.LedgerFault.{LedgerFault}
use Rattle.send_commands.specs.declared.ledger.LedgerFault.TheVariants as ledger

-- ---- What is kept of one.

-- What standard error has of a line that is refused, but for the name of the program before it and its line feed.
abbrev pub behind_name : (said : List ℕ) → List ℕ
behind_name said = let end = length said - 1 in take (end - min end 6) (drop (min end 6) said)

-- A line but for its line feed.
abbrev pub IsText : (line text : List ℕ) → Type 0
IsText line text = (line ≡ text ++ 0x0A ∷ []) ⊎ ((HasEnd line → ⊥) × (text ≡ line))

-- Its number, what is said of it, and its text, as far as it is held, with tabs between, in a line.
abbrev pub IsRecord : Refusal → (bytes : List ℕ) → Type 0
IsRecord refusal bytes =
    (text : List ℕ) × IsText refusal.line text
    × (bytes ≡ decimal refusal.number ++ (codes "\t"
    ++ (behind_name (error_lines (fault_at refusal.number refusal.fault)) ++ (codes "\t" ++ (text ++ codes "\n")))))

-- Its record was written at the end of what keeps such lines, and is on the disk.
abbrev pub Keeps : {L : Type 0} → (writes : L → List ℕ → L → Type 0) → (syncs : L → L → Type 0) → Refusal
    → (l l' : L) → Type 0
Keeps {L} writes syncs refusal l l' =
    (bytes : List ℕ) × (between : L) × IsRecord refusal bytes × writes l bytes between × syncs between l'

-- ---- A feed whose lines are kept that are passed over, where something keeps them; and why the last was not, if so.
pub record Kept (D L : Type 0) : Type 0 where
  pub feed : D
  pub ledger : Option L
  pub fault : Option LedgerFault

-- Only of the feed something changed.
abbrev pub IsOfFeed : {D L : Type 0} → (p p' : Kept D L) → Type 0
IsOfFeed p p' = p' ≡ record p { feed = p'.feed }

-- The next line is the feed's.
abbrev pub Takes : {D L : Type 0} → (takes : D → Result Next FeedFault → List ℕ → D → Type 0) → Kept D L
    → Result Next FeedFault → List ℕ → Kept D L → Type 0
Takes takes p answer line p' = takes p.feed answer line p'.feed × IsOfFeed p p'

-- Whether one is there, the feed says.
abbrev pub Asks : {D L : Type 0} → (says : D → Bool → D → Type 0) → Kept D L → Bool → Kept D L → Type 0
Asks says p there p' = says p.feed there p'.feed × IsOfFeed p p'

-- What keeps a line did so, or did not, for a reason that is known; where nothing keeps them nothing was done.
abbrev pub LedgerPasses : {L : Type 0} → (writes : L → List ℕ → L → Type 0) → (syncs : L → L → Type 0) → Refusal
    → Result (Unit {0}) NotKept → (l l' : Option L) → (fault' : Option LedgerFault) → Type 0
LedgerPasses writes syncs refusal kept None l' fault' = (kept ≡ Ok tt) × (l' ≡ None)
LedgerPasses {L} writes syncs refusal (Ok done) (Some l) l' fault' =
    (after : L) × (l' ≡ Some after) × Keeps writes syncs refusal l after
LedgerPasses writes syncs refusal (Err why) (Some l) l' fault' = is_some fault' ≡ true

-- A line that is passed over is kept so; of the feed nothing changes.
abbrev pub PassesTo : {D L : Type 0} → (writes : L → List ℕ → L → Type 0) → (syncs : L → L → Type 0) → Kept D L
    → Refusal → Result (Unit {0}) NotKept → Kept D L → Type 0
PassesTo writes syncs p refusal kept p' =
    (p'.feed ≡ p.feed) × LedgerPasses writes syncs refusal kept p.ledger p'.ledger p'.fault
    × (kept ≡ Ok tt → p'.fault ≡ p.fault)

-- ---- What is said where one could not be kept.

-- The reason, behind the file.
abbrev pub ledger_text : LedgerFault → List ℕ
ledger_text ledger.NoFolder = codes "no such folder"
ledger_text ledger.NotPermitted = codes "not permitted"
ledger_text ledger.ReadOnly = codes "read-only"
ledger_text ledger.Folder = codes "it is a folder"
ledger_text ledger.Full = codes "no room"
ledger_text ledger.OutOfMemory = codes "out of memory"
ledger_text ledger.Other = codes "it can't be written"

-- The line that says so of the file at this path.
abbrev pub not_kept_line : (path : List ℕ) → LedgerFault → List ℕ
not_kept_line path fault =
    codes "uecp: refused lines can't be kept: " ++ (path ++ (codes ": " ++ (ledger_text fault ++ codes "\n")))

-- It was said of the file that keeps them, where there was a fault; else nothing was said.
abbrev pub TellsFault : (path : Option (List ℕ)) → Option LedgerFault → (said said' : Told) → Type 0
TellsFault (Some path) (Some fault) said said' = Says said said' (not_kept_line path fault)
TellsFault path fault said said' = said' ≡ said
