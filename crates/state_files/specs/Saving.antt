-- The state of an end in a file: what a crash may leave of it. Source: profile.
use Rattle.std.specs.Prelude.{◌≡◌, ◌⊎◌, ℕ, List, Some}
use Rattle.sqlite.specs.Tree.{Trees}
use Rattle.sqlite.specs.Store.{Ghosts}
use Rattle.sqlite_image.specs.Kept.{Holds}
use Rattle.sqlite_image.specs.Keeper.{Keeper, IsClean, MayLeave, Keeps, HasEnded}

-- A save failed: it did nothing for want of memory, or no further save will do anything.
abbrev pub FailsTo : {S V : Type 0} → Ghosts S → Keeper S → V → Keeper S → Type 0
FailsTo g k saved after = HasEnded g after ⊎ (after ≡ k)

-- Ends and how far they have come, as an image says them; what each of them is; and what is kept of them.
module _ {S P E V : Type 0} (g : Ghosts S) (image : P → E → List ℕ) (is_end : P → E → Type 0)
    (kept_of : P → E → V) where
  -- A crash at this moment may leave rows that hold the image of an end of which this is kept.
  pub record Leaves (k : Keeper S) (left : V) : Type 0 where
    pub rows : Trees
    pub may : MayLeave g k rows
    pub progress : P
    pub end : E
    pub is : is_end progress end
    pub holds : Holds k.version (Some (image progress end)) rows
    pub is_kept : left ≡ kept_of progress end

  -- A save of what is kept of an end succeeded: whatever a crash leaves holds the image of one.
  abbrev pub Saves : Keeper S → V → Keeper S → Type 0
  Saves k saved after =
      IsClean g after
      → (progress : P) × (end : E) × (saved ≡ kept_of progress end) × Keeps g after (Some (image progress end))

-- Two ends with one image are one in what is kept of them.
abbrev pub ImagesTell : {P E V : Type 0} → (image : P → E → List ℕ) → (is_end : P → E → Type 0)
    → (kept_of : P → E → V) → Type 0
ImagesTell {P} {E} image is_end kept_of =
    (p q : P) → (d e : E) → is_end p d → is_end q e → image p d ≡ image q e → kept_of p d ≡ kept_of q e
