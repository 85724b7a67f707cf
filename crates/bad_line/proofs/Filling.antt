-- Reads of a device one after another.
use Rattle.std.proofs.Common.{◌≡◌, ◌≢◌, ◌<◌, ◌⊎◌, inl, inr, ℕ, zero, suc, Bool, true, false, List, [], ◌∷◌, length}
use Rattle.std.proofs.Common.{Option, refl, sym}
use Rattle.std.proofs.Common.{subst, eqb, arith, not}
use Rattle.std.specs.Bool.{MatchBool}
use Rattle.std.proofs.lemmas.Bool.{false≢true}
use borrow.Author.Tests.{eqb-true}
use Rattle.std.specs.Prelude.{Result, Ok, Err, MatchResult}
use Rattle.bad_line.specs.Ends.{End, Fills, ComesToEnd, ReadsOn, FillsInTurn, IsEnd}

pub fills_more : {D : Type 0} (remaining : D → Option (List ℕ)) (reads : ℕ) (a b c : End D)
    → FillsInTurn remaining reads a b → ReadsOn remaining b c → FillsInTurn remaining (suc reads) a c
fills_more remaining zero a b c same last = (c, subst (λ from. ReadsOn remaining from c) same last, refl)
fills_more remaining (suc reads) a b c (next, first, rest) last =
    (next, first, fills_more remaining reads next b c rest last)

-- one step more, or none
pub goes_on : {D : Type 0} (remaining : D → Option (List ℕ)) (reads : ℕ) (a b c : End D)
    → FillsInTurn remaining reads a b → (c ≡ b) ⊎ ReadsOn remaining b c
    → (count : ℕ) × FillsInTurn remaining count a c
goes_on remaining reads a b c chain (inl same) =
    (reads, subst (λ to. FillsInTurn remaining reads a to) (sym same) chain)
goes_on remaining reads a b c chain (inr more) = (suc reads, fills_more remaining reads a b c chain more)

-- a read of the device where nothing waits
pub as_step : {D E : Type 0} (remaining : D → Option (List ℕ)) (old new : End D) (result : Result Bool E) (Q : Type 0)
    → old.direction.waiting ≡ []
    → MatchResult result (λ some. MatchBool some (Fills remaining old new) (ComesToEnd remaining old new)) (λ _. Q)
    → MatchResult result (λ more. MatchBool more ((new ≡ old) ⊎ ReadsOn remaining old new) (IsEnd remaining old new))
    (λ _. Q)
as_step remaining old new (Ok true) Q none came = inr (inl came)
as_step remaining old new (Ok false) Q none came = (none, inr came)
as_step remaining old new (Err fault) Q none came = came

-- whether there is anything
pub is_some_byte : (bytes bytes' : List ℕ) (some : Bool) → bytes ≡ bytes' → some ≡ eqb (length bytes) 0
    → MatchBool some (bytes' ≡ []) (bytes' ≢ [])
is_some_byte [] bytes' true same is = sym same
is_some_byte [] bytes' false same is = absurd (false≢true is)
is_some_byte (byte ∷ bytes) bytes' true same is =
    absurd (let none = eqb-true (length (byte ∷ bytes)) 0 (sym is) in omega (arith, none))
is_some_byte (byte ∷ bytes) bytes' false same is = λ none. (cc)

pub not_empty : (bytes : List ℕ) (some : Bool) → MatchBool some (bytes ≡ []) (bytes ≢ [])
    → MatchBool (not some) (bytes ≢ []) (bytes ≡ [])
not_empty bytes true is = is
not_empty bytes false is = is

-- what a truth value chooses
pub where_true : (b : Bool) (P Q : Type 0) → b ≡ true → MatchBool b P Q → P
where_true b P Q is chosen = subst (λ v. MatchBool v P Q) is chosen

pub where_false : (b : Bool) (P Q : Type 0) → b ≡ false → MatchBool b P Q → Q
where_false b P Q is chosen = subst (λ v. MatchBool v P Q) is chosen

pub positive : (n : ℕ) → (n ≡ 0 → ⊥) → 0 < n
positive zero some = absurd (some refl)
positive (suc n) some = omega arith
