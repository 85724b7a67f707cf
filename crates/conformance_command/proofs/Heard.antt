-- Reads of a case, one after another.
use Rattle.std.proofs.Common.{◌≡◌, ◌≢◌, ℕ, ◌+◌, ◌-◌, ◌≤◌, Bool, true, false, List, [], ◌++◌, length, take, Option}
use Rattle.std.proofs.Common.{subst, refl, arith, zero, suc, add-zero, length-append, ◌<◌, ◌==◌, ◌∙◌, ap}
use Rattle.std.specs.Prelude.{if◌then◌else◌}
use Rattle.std.proofs.lemmas.Bool.{ne_eqb}
use Rattle.std.proofs.lemmas.List.{length-take-le}
use Rattle.std.proofs.Common.{append-nil, Result, Ok}
use Rattle.std.specs.Io.KnownBytes.{Consumes, Keeps, Appends}
use Rattle.uecp_encoder.specs.Metered.{Metered, counted}
use Rattle.uecp_link.specs.declared.driving.DriveFault.{DriveFault}
use Rattle.uecp_link.specs.declared.joining.Joining.{Joining}
use Rattle.uecp_link.specs.declared.joining.Joining.TheVariants.{Joined}
use Rattle.uecp_link.specs.Reading.{Reads}
use Rattle.uecp_link.proofs.Public.{one_read, failed_read, last_read, reads_on}
use Rattle.conformance.specs.declared.verdict.Expected.{Expected}
use Rattle.conformance_command.specs.declared.went.Went.{Went}
use Rattle.conformance_command.specs.declared.went.Went.TheVariants.{Judged, NotJoined, Silent, Floods, NotSent}
use Rattle.conformance_command.specs.declared.went.Went.TheVariants.{NotQuiet, NotHeard}
use Rattle.conformance_command.specs.Running.{Hears, WentOn, ReadsAway, WaitsOn, IsUnjoined, most_reads}

module _ {R : Type 0} (remaining : R → Option (List ℕ)) (r0 r1 : Metered R) (x : List ℕ) (n f : ℕ)
    (before : Reads remaining r0 r1 x n f false) where
  -- one more that failed
  pub failed_more : (r2 : Metered R) → Keeps (remaining r1.device) (remaining r2.device) → r2.calls ≡ counted r1.calls
      → r2.failures ≡ counted r1.failures → r2.empty ≡ r1.empty → Reads remaining r0 r2 x (n + 1) (f + 1) false
  failed_more r2 kept calls failures empty =
      subst (λ bytes. Reads remaining r0 r2 bytes (n + 1) (f + 1) false) (append-nil x)
      (reads_on remaining r0 r1 r2 x n f before [] 1 1 false (failed_read remaining r1 r2 kept calls failures empty))

  -- one more that met the end
  pub ended_more : (r2 : Metered R) (buffer : List ℕ) (count : ℕ) → count ≡ 0
      → Consumes (remaining r1.device) (remaining r2.device) (take count buffer) → r2.calls ≡ counted r1.calls
      → r2.failures ≡ r1.failures → r2.empty ≡ counted r1.empty → Reads remaining r0 r2 x (n + 1) (f + 0) true
  ended_more r2 buffer count none took calls failures empty =
      subst (λ bytes. Reads remaining r0 r2 bytes (n + 1) (f + 0) true) (append-nil x)
      (reads_on remaining r0 r1 r2 x n f before [] 1 0 true
      (last_read remaining r1 r2 buffer count none took calls failures empty))

  -- one more that brought bytes
  pub brought_more : (r2 : Metered R) (piece : List ℕ) → Consumes (remaining r1.device) (remaining r2.device) piece
      → length piece ≤ 64 → r2.calls ≡ counted r1.calls → r2.failures ≡ r1.failures → r2.empty ≡ r1.empty
      → Reads remaining r0 r2 (x ++ piece) (n + 1) (f + 0) false
  brought_more r2 piece took few calls failures empty =
      reads_on remaining r0 r1 r2 x n f before piece 1 0 false
      (one_read remaining r1 r2 piece took few calls failures empty)

-- what joining left so far
pub record LeftSoFar {R : Type 0} (remaining : R → Option (List ℕ)) (r0 r : Metered R) (reads bytes : ℕ) : Type 0 where
  pub read : List ℕ
  pub reading : Reads remaining r0 r read reads 0 false
  pub count : bytes ≡ length read

module _ {R : Type 0} (remaining : R → Option (List ℕ)) (r0 r1 : Metered R) (n bytes : ℕ)
    (so : LeftSoFar remaining r0 r1 n bytes) where
  -- one read more brought bytes
  pub left_more : (r2 : Metered R) (buffer : List ℕ) (count : ℕ) → count ≤ length buffer → count ≤ 64
      → Consumes (remaining r1.device) (remaining r2.device) (take count buffer) → r2.calls ≡ counted r1.calls
      → r2.failures ≡ r1.failures → r2.empty ≡ r1.empty → LeftSoFar remaining r0 r2 (n + 1) (bytes + count)
  left_more r2 buffer count within few took calls failures empty =
      let size = length-take-le count buffer within in
      let all = length-append so.read (take count buffer) in
      let before = so.count in
      record {
        read = so.read ++ take count buffer;
        reading = brought_more remaining r0 r1 so.read n 0 so.reading r2 (take count buffer) took
            (omega (arith, size, few)) calls failures empty;
        count = omega (arith, size, all, before);
      }

  -- one read more failed
  pub left_failed : (r2 : Metered R) → Keeps (remaining r1.device) (remaining r2.device) → r2.calls ≡ counted r1.calls
      → r2.failures ≡ counted r1.failures → r2.empty ≡ r1.empty → n < most_reads
      → ReadsAway remaining r0 r2 bytes true
  left_failed r2 kept calls failures empty less = (
    so.read,
    n + 1,
    1,
    false,
    failed_more remaining r0 r1 so.read n 0 so.reading r2 kept calls failures empty,
    so.count,
    omega (arith, less),
    refl,
  )

  -- one read more met the end
  pub left_ended : (r2 : Metered R) (buffer : List ℕ) (count : ℕ) → count ≡ 0
      → Consumes (remaining r1.device) (remaining r2.device) (take count buffer) → r2.calls ≡ counted r1.calls
      → r2.failures ≡ r1.failures → r2.empty ≡ counted r1.empty → n < most_reads
      → ReadsAway remaining r0 r2 bytes true
  left_ended r2 buffer count none took calls failures empty less = (
    so.read,
    n + 1,
    0,
    true,
    ended_more remaining r0 r1 so.read n 0 so.reading r2 buffer count none took calls failures empty,
    so.count,
    omega (arith, less),
    refl,
  )

  -- all reads were made
  pub left_all : n ≡ most_reads → ReadsAway remaining r0 r1 bytes false
  left_all all = (so.read, subst (λ k. Reads remaining r0 r1 so.read k 0 false) all so.reading, so.count)

-- of so many reads all failed, and the next brought something or met the end
module _ {R : Type 0} (remaining : R → Option (List ℕ)) (r0 r1 : Metered R) (n most : ℕ)
    (before : Reads remaining r0 r1 [] n n false) (less : n < most) where
  pub not_silent : (r2 : Metered R) (buffer : List ℕ) (count : ℕ)
      → Consumes (remaining r1.device) (remaining r2.device) (take count buffer) → length (take count buffer) ≤ 64
      → r2.calls ≡ counted r1.calls → r2.failures ≡ r1.failures
      → r2.empty ≡ (if count == 0 then counted r1.empty else r1.empty) → WaitsOn remaining most r0 r2 false
  not_silent r2 buffer zero took few calls failures empty = (
    [],
    n,
    true,
    subst (λ f. Reads remaining r0 r2 [] (n + 1) f true) (add-zero n)
        (ended_more remaining r0 r1 [] n n before r2 buffer zero refl took calls failures empty),
    less,
  )
  not_silent r2 buffer (suc k) took few calls failures empty =
      let some : (suc k == 0) ≡ false = ne_eqb (suc k) 0 (omega arith) in
      let stays : r2.empty ≡ r1.empty = empty ∙ ap (λ b. if b then counted r1.empty else r1.empty) some in (
        take (suc k) buffer,
        n,
        false,
        subst (λ f. Reads remaining r0 r2 (take (suc k) buffer) (n + 1) f false) (add-zero n)
            (brought_more remaining r0 r1 [] n n before r2 (take (suc k) buffer) took few calls failures stays),
        less,
      )

-- what was heard behind what joining left and what was sent
pub heard_on : {I O : Type 0} (remaining : I → Option (List ℕ)) (contents : O → Option (List ℕ))
    (own patience silent : ℕ) (bytes : List ℕ) (replies : List Expected) (pass : Result Joining DriveFault)
    (unheard : Bool) (input quiet input' : Metered I) (output output' : Metered O) (went : Went) (left : ℕ)
    (came : List ℕ) → pass ≡ Ok Joined → ReadsAway remaining input quiet left true
    → Appends (contents output.device) (contents output'.device) bytes
    → Hears remaining own patience replies quiet input' went came
    → WentOn remaining contents own patience silent bytes replies pass unheard input input' output output' went left
    came
heard_on remaining contents own patience silent bytes replies pass unheard i q i' o o' (Judged verdict) left came joined
    away sent heard = (joined, (q, away, heard), sent)
heard_on remaining contents own patience silent bytes replies pass unheard i q i' o o' NotJoined left came joined away
    sent heard = absurd heard
heard_on remaining contents own patience silent bytes replies pass unheard i q i' o o' Silent left came joined away sent
    heard = absurd heard
heard_on remaining contents own patience silent bytes replies pass unheard i q i' o o' Floods left came joined away sent
    heard = absurd heard
heard_on remaining contents own patience silent bytes replies pass unheard i q i' o o' (NotSent written) left came
    joined
    away sent heard = absurd heard
heard_on remaining contents own patience silent bytes replies pass unheard i q i' o o' NotQuiet left came joined away
    sent heard = (joined, (q, away, heard), sent)
heard_on remaining contents own patience silent bytes replies pass unheard i q i' o o' NotHeard left came joined away
    sent heard = (joined, (q, away, heard), sent)

-- what was done where the encoder was not joined
pub unjoined_on : {I O : Type 0} (remaining : I → Option (List ℕ)) (contents : O → Option (List ℕ))
    (own patience silent : ℕ) (bytes : List ℕ) (replies : List Expected) (pass : Result Joining DriveFault)
    (unheard : Bool) (input input' : Metered I) (output output' : Metered O) (went : Went) (left : ℕ) (came : List ℕ)
    → pass ≢ Ok Joined → output' ≡ output → left ≡ 0 → came ≡ []
    → IsUnjoined remaining (silent - patience) unheard input input' went
    → WentOn remaining contents own patience silent bytes replies pass unheard input input' output output' went left
    came
unjoined_on remaining contents own patience silent bytes replies pass unheard i i' o o' (Judged verdict) left came not
    same none empty so = absurd so
unjoined_on remaining contents own patience silent bytes replies pass unheard i i' o o' NotJoined left came not same
    none
    empty so = (not, same, none, empty, so)
unjoined_on remaining contents own patience silent bytes replies pass unheard i i' o o' Silent left came not same none
    empty
    so = (not, same, none, empty, so)
unjoined_on remaining contents own patience silent bytes replies pass unheard i i' o o' Floods left came not same none
    empty
    so = absurd so
unjoined_on remaining contents own patience silent bytes replies pass unheard i i' o o' (NotSent written) left came not
    same none empty so = absurd so
unjoined_on remaining contents own patience silent bytes replies pass unheard i i' o o' NotQuiet left came not same none
    empty so = absurd so
unjoined_on remaining contents own patience silent bytes replies pass unheard i i' o o' NotHeard left came not same none
    empty so = absurd so

-- the same of the same bytes, replies, reader, and whether nothing came
pub went_as : {I O : Type 0} (remaining : I → Option (List ℕ)) (contents : O → Option (List ℕ))
    (own patience silent : ℕ) (bytes bytes' : List ℕ) (replies replies' : List Expected)
    (pass : Result Joining DriveFault) (unheard unheard' : Bool) (before before' input : Metered I)
    (output output' : Metered O) (went : Went) (left : ℕ) (came : List ℕ) → bytes ≡ bytes' → replies ≡ replies'
    → unheard ≡ unheard' → before ≡ before'
    → WentOn remaining contents own patience silent bytes replies pass unheard before input output output' went left
    came
    → WentOn remaining contents own patience silent bytes' replies' pass unheard' before' input output output' went left
    came
went_as remaining contents own patience silent b b' r r' pass u u' i i' input o o' went left came bs rs us is on =
    subst (λ x. WentOn remaining contents own patience silent x r' pass u' i' input o o' went left came) bs
    (subst (λ x. WentOn remaining contents own patience silent b x pass u' i' input o o' went left came) rs
    (subst (λ x. WentOn remaining contents own patience silent b r pass x i' input o o' went left came) us
    (subst (λ x. WentOn remaining contents own patience silent b r pass u x input o o' went left came) is on)))
