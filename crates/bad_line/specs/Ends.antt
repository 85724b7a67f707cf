-- The two ends of a connection with faults (profile).
use Rattle.std.specs.Prelude.{◌≡◌, ◌≢◌, ◌⊎◌, ◌<◌, ℕ, zero, suc, Bool, true, false, List, [], ◌++◌, length, take, Option}
use Rattle.std.specs.Prelude.{Result, Ok, Err, MatchResult, IfOk}
use Rattle.std.specs.Bool.{MatchBool}
use Rattle.std.specs.Io.KnownBytes.{Appends, Consumes, Keeps, IsAtEnd}
use Rattle.bad_line.specs.Passages.{Direction, TakesAll}

-- One end: its device, and the direction that passes it.
pub record End (D : Type 0) : Type 0 where
  pub device : D
  pub direction : Direction

-- The same end, with so much waiting.
abbrev pub with_waiting : {D : Type 0} → End D → List ℕ → End D
with_waiting end waiting = record end { direction = record end.direction { waiting = waiting } }

-- ---- Reading.

-- One read of the device was made, which is made only where the connection holds, and what it brought passed: what came
-- out of it waits behind what waited.
pub record Fills {D : Type 0} (remaining : D → Option (List ℕ)) (old new : End D) : Type 0 where
  pub read : List ℕ
  pub used : ℕ
  pub holds : old.direction.is_broken ≡ false
  pub consumed : Consumes (remaining old.device) (remaining new.device) read
  pub takes : TakesAll old.direction new.direction read used

-- One read of the device was made, which is made only where the connection holds, and the device is at its end.
abbrev pub ComesToEnd : {D : Type 0} → (D → Option (List ℕ)) → (old new : End D) → Type 0
ComesToEnd remaining old new =
    (old.direction.is_broken ≡ false) × (new ≡ record old { device = new.device })
    × Consumes (remaining old.device) (remaining new.device) [] × IsAtEnd (remaining new.device)

-- One read of the device was made, and what it brought passed; or the device is at its end, and something waits.
abbrev pub ReadsOn : {D : Type 0} → (D → Option (List ℕ)) → (old new : End D) → Type 0
ReadsOn remaining old new =
    Fills remaining old new ⊎ ((old.direction.waiting ≢ []) × ComesToEnd remaining old new)

-- So many such reads were made, one after another.
abbrev pub FillsInTurn : {D : Type 0} → (D → Option (List ℕ)) → (reads : ℕ) → (old new : End D) → Type 0
FillsInTurn remaining zero old new = new ≡ old
FillsInTurn {D} remaining (suc reads) old new =
    (next : End D) × ReadsOn remaining old next × FillsInTurn remaining reads next new

-- The end of the input: nothing waits, and the connection has broken, or the device is at its end.
abbrev pub IsEnd : {D : Type 0} → (D → Option (List ℕ)) → (old new : End D) → Type 0
IsEnd remaining old new = (old.direction.waiting ≡ [])
    × (((old.direction.is_broken ≡ true) × (new ≡ old)) ⊎ ComesToEnd remaining old new)

-- Of what waits the first bytes were handed on.
abbrev pub HandsOn : {D : Type 0} → (old new : End D) → (bytes : List ℕ) → Type 0
HandsOn old new bytes =
    (old.direction.waiting ≡ bytes ++ new.direction.waiting) × (new ≡ with_waiting old new.direction.waiting)

-- So many reads of the device were made, up to where something waits, or at the end of the input nothing. Or a read
-- of the device failed.
abbrev pub FillsUp : {D E : Type 0} → (D → Option (List ℕ)) → (old new : End D) → Result Bool E → Type 0
FillsUp {D} remaining old new result = (reads : ℕ) × (filled : End D) × FillsInTurn remaining reads old filled
    × MatchResult result
    (λ some. MatchBool some ((new ≡ filled) × (new.direction.waiting ≢ [])) (IsEnd remaining filled new))
    (λ _. (new ≡ record filled { device = new.device })
    × Keeps (remaining filled.device) (remaining new.device))

-- What a read into a buffer did: nothing where that has no room. Else it read the device until something waits, and
-- handed on the first of that, as much as it answers, and at least a byte; or at the end of the input nothing.
abbrev pub Reads : {D E : Type 0} → (D → Option (List ℕ)) → (old new : End D) → Result ℕ E → (buffer : List ℕ) → Type 0
Reads {D} {E} remaining old new result buffer =
    ((length buffer ≡ 0) × (new ≡ old) × IfOk result (λ count. count ≡ 0))
    ⊎ MatchResult result
    (λ count. ((filled : End D) × FillsUp {E = E} remaining old filled (Ok true)
    × HandsOn filled new (take count buffer)
    × (0 < count))
    ⊎ (FillsUp {E = E} remaining old new (Ok false) × (count ≡ 0)))
    (λ fault. FillsUp remaining old new (Err fault))

-- ---- Writing.

-- Of what waits the first bytes were written: all of them, or the first where a write failed.
abbrev pub Delivers : {D E : Type 0} → (D → Option (List ℕ)) → (old new : End D) → Result (Unit {0}) E → Type 0
Delivers contents old new result = (sent : List ℕ) × Appends (contents old.device) (contents new.device) sent
    × (old.direction.waiting ≡ sent ++ new.direction.waiting)
    × (new ≡ record old { device = new.device; direction = record old.direction { waiting = new.direction.waiting } })
    × IfOk result (λ _. new.direction.waiting ≡ [])

-- What a write of bytes did. What waited was written first: where that failed, or the connection has broken, nothing
-- was taken. Else at most 512 of the bytes were taken, as many as it answers, and what came out of them was written, or
-- its first part; the rest waits.
abbrev pub Writes : {D E : Type 0} → (D → Option (List ℕ)) → (old new : End D) → Result ℕ E → (bytes : List ℕ) → Type 0
Writes {D} {E} contents old new result bytes = MatchResult result
    (λ count. (before : End D) × (after : End D) × (last : Result (Unit {0}) E)
    × Delivers {E = E} contents old before (Ok tt) × (before.direction.is_broken ≡ false)
    × (after.device ≡ before.device) × TakesAll before.direction after.direction (take 512 bytes) count
    × Delivers contents after new last)
    (λ fault. (sent : Result (Unit {0}) E) × Delivers contents old new sent
    × ((sent ≡ Err fault) ⊎ (new.direction.is_broken ≡ true)))
