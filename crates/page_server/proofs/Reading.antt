-- One part of an input behind another.
use Rattle.std.proofs.Common.{◌≡◌, ℕ, List, [], ◌++◌, Option, Some, None, refl, ◌∙◌, ap, sym, subst, append_assoc}
use Rattle.std.proofs.Common.{append-nil, Result, Ok, Err, IfOk, OnErr, Bool, ◌≤◌, arith}
use Rattle.std.specs.Io.KnownBytes.{Consumes, IsAtEnd}
use Rattle.page.specs.declared.intake.taking.Intake.{Intake}
use Rattle.page.specs.Intake.{board_of, status_of}
use Rattle.page.specs.Input.{IntakeOf, AllTaken, GoesOn, Ends}
use Rattle.page.proofs.Public.{refused_exactly}
use Rattle.page_server.specs.declared.server.Progress.{Progress}
use Rattle.page_server.specs.declared.server.Progress.TheVariants.{More, Waits, Ended}
use Rattle.page_server.specs.Serving.{ReadsOn, ReadsAll, Moves, EndsWith}

consumes_then : (old between new : Option (List ℕ)) (bytes more : List ℕ) → Consumes old between bytes
    → Consumes between new more → Consumes old new (bytes ++ more)
consumes_then None between new bytes more one two = tt
consumes_then (Some xs) None new bytes more one two = absurd one
consumes_then (Some xs) (Some ys) None bytes more one two = absurd two
consumes_then (Some xs) (Some ys) (Some zs) bytes more one two =
    one ∙ ap (λ l. bytes ++ l) two ∙ sym (append_assoc bytes more zs)

consumes_none : (now : Option (List ℕ)) → Consumes now now []
consumes_none None = tt
consumes_none (Some xs) = refl

pub goes_on_then : (bytes more : List ℕ) (i j k : Intake) → GoesOn bytes i j → GoesOn more j k
    → GoesOn (bytes ++ more) i k
goes_on_then bytes more i j k one two first before so =
    subst (λ l. IntakeOf first l k) (append_assoc before bytes more) (two first (before ++ bytes) (one first before so))

pub ends_then : (bytes more : List ℕ) (i j k : Intake) → GoesOn bytes i j → Ends more j k → Ends (bytes ++ more) i k
ends_then bytes more i j k one two first before so =
    subst (λ l. AllTaken first l (board_of k)) (append_assoc before bytes more)
    (two first (before ++ bytes) (one first before so))

pub stands_still : (i : Intake) → GoesOn [] i i
stands_still i first before so = subst (λ l. IntakeOf first l i) (sym (append-nil before)) so

pub nothing_read : (now : Option (List ℕ)) (i : Intake) → ReadsOn now now i i
nothing_read now i = ([], consumes_none now, stands_still i)

pub reads_then : (old between new : Option (List ℕ)) (i j k : Intake) → ReadsOn old between i j
    → ReadsOn between new j k → ReadsOn old new i k
reads_then old between new i j k (bytes, one, so) (more, two, then) =
    (bytes ++ more, consumes_then old between new bytes more one two, goes_on_then bytes more i j k so then)

pub reads_all_then : (old between new : Option (List ℕ)) (i j k : Intake) → ReadsOn old between i j
    → ReadsAll between new j k → ReadsAll old new i k
reads_all_then old between new i j k (bytes, one, so) (more, two, at_end, then) =
    (bytes ++ more, consumes_then old between new bytes more one two, at_end, ends_then bytes more i j k so then)

-- lines were taken of what one read brought
pub takes_of_read : {E : Type 0} (old new : Option (List ℕ)) (bytes : List ℕ) (i j k : Intake) (r : Result Progress E)
    → Consumes old new bytes → GoesOn bytes i j → IfOk r (λ p. p ≡ More) → IfOk r (λ _. GoesOn [] j k)
    → IfOk r (Moves old new i k)
takes_of_read old new bytes i j k (Ok p) one so is then =
    subst (Moves old new i k) (sym is)
    (bytes, one, subst (λ l. GoesOn l i k) (append-nil bytes) (goes_on_then bytes [] i j k so then))
takes_of_read old new bytes i j k (Err e) one so is then = tt

-- a read found the end, and the last line was taken
pub takes_last_of : {E : Type 0} (old new : Option (List ℕ)) (bytes : List ℕ) (i j k : Intake) (r : Result Progress E)
    → Consumes old new bytes → IsAtEnd new → GoesOn bytes i j → IfOk r (λ p. p ≡ Ended) → IfOk r (λ _. Ends [] j k)
    → IfOk r (Moves old new i k)
takes_last_of old new bytes i j k (Ok p) one at_end so is then =
    subst (Moves old new i k) (sym is)
    (bytes, one, at_end, subst (λ l. Ends l i k) (append-nil bytes) (ends_then bytes [] i j k so then))
takes_last_of old new bytes i j k (Err e) one at_end so is then = tt

-- lines were taken of what had been read before
pub takes_of_rest : {E : Type 0} (now : Option (List ℕ)) (i k : Intake) (r : Result Progress E)
    → IfOk r (λ p. p ≡ More) → IfOk r (λ _. GoesOn [] i k) → IfOk r (Moves now now i k)
takes_of_rest now i k (Ok p) is then = subst (Moves now now i k) (sym is) ([], consumes_none now, then)
takes_of_rest now i k (Err e) is then = tt

pub takes_two : (i j k : Intake) → GoesOn [] i j → GoesOn [] j k → GoesOn [] i k
takes_two i j k one two = goes_on_then [] [] i j k one two

-- a turn that did not come to the end
pub moves_on : (old new : Option (List ℕ)) (i k : Intake) (p : Progress) → (p ≡ Ended → ⊥) → Moves old new i k p
    → ReadsOn old new i k
moves_on old new i k More none moves = moves
moves_on old new i k Waits none moves = moves
moves_on old new i k Ended none moves = absurd (none refl)

-- a run that came to the end of its input
ends_with : (old new : Option (List ℕ)) (first : ℕ) (i k : Intake) (status : ℕ) → IntakeOf first [] i
    → ReadsAll old new i k → status ≡ status_of (board_of k).refused → EndsWith old new status
ends_with old new first i k status begins (bytes, came, at_end, ends) is =
    let (out, are_all, other) = refused_exactly first bytes (board_of k) (ends first [] begins) in
    record {
      bytes = bytes;
      read = came;
      at_end = at_end;
      out = out;
      are_all = are_all;
      refused = (board_of k).refused;
      has_other = other;
      status_is = is;
    }

pub status_tells : {E : Type 0} (old new : Option (List ℕ)) (first : ℕ) (i k : Intake) (served : Result Bool E)
    (status : ℕ) → IntakeOf first [] i → IfOk served (λ _. ReadsAll old new i k)
    → IfOk served (λ refused. refused ≡ (board_of k).refused) → IfOk served (λ refused. status ≡ status_of refused)
    → OnErr served (status ≡ 3) → status ≤ 1 → EndsWith old new status
status_tells old new first i k (Ok refused) status begins all same is none low =
    ends_with old new first i k status begins all (is ∙ ap status_of same)
status_tells old new first i k (Err e) status begins all same is three low = absurd (omega (arith, three, low))

-- the same where nothing was taken before
pub moves_from : (old new : Option (List ℕ)) (i j k : Intake) (p : Progress) → i ≡ j → Moves old new i k p
    → Moves old new j k p
moves_from old new i j k p is moves =
    let P : Intake → Type 0 = λ x. Moves old new x k p in
    subst P is moves

-- nothing was taken behind
pub reads_to : (old new : Option (List ℕ)) (i j k : Intake) → k ≡ j → ReadsOn old new i j → ReadsOn old new i k
reads_to old new i j k is reads =
    let P : Intake → Type 0 = λ x. ReadsOn old new i x in
    subst P (sym is) reads
