-- What stands at the front of a text, and what is told of a text that reads as no tokens (profile).
use Rattle.std.specs.Prelude.{◌≡◌, ◌≢◌, ◌≤◌, ◌-◌, ℕ, List, ◌∷◌, ◌++◌, length, slice_index, Some}
use Rattle.rds_text.specs.BasicSet.{character_of}
use Rattle.phrase_tokens.specs.declared.tokens_read.Unread.{Unread as Reason}
use Rattle.phrase_tokens.specs.declared.tokens_read.Unread.TheVariants as why
use Rattle.phrase_tokens.specs.declared.tokens_read.TokenFault.{TokenFault}
use Rattle.phrase_tokens.specs.declared.tokens_read.TokenFault.TheVariants.{OutOfMemory, Unread}
use Rattle.phrase_tokens.specs.Tokens.{Token, Word, SpellsToken, EndsBefore}

-- The token stands at the front of the text, and this behind it.
pub record Front (text : List ℕ) (t : Token) (more : List ℕ) : Type 0 where
  pub front : List ℕ
  pub whole : text ≡ front ++ more
  pub spells : SpellsToken t front
  pub ends : EndsBefore t more

-- No token stands at the front of the text.
abbrev pub FrontNone : List ℕ → Type 0
FrontNone text = (t : Token) (more : List ℕ) → Front text t more → ⊥

-- No word does.
abbrev pub WordNone : List ℕ → Type 0
WordNone text = (w more : List ℕ) → Front text (Word w) more → ⊥

-- What is told of the character at which a text can't be read: a word's first is none of another token; no byte stands
-- for one that is not in the set; a backslash begins what escapes nothing; a quote is not closed, or too far behind.
abbrev pub TellsOf : Reason → (character : ℕ) → Type 0
TellsOf why.Word c = (c ≢ 0x20) × (c ≢ 0x22) × (c ≢ 0x3B)
TellsOf why.NotInSet c = (byte : ℕ) → character_of byte ≢ Some c
TellsOf why.Escape c = c ≡ 0x5C
TellsOf why.Unclosed c = c ≡ 0x22
TellsOf why.TooLong c = c ≡ 0x22

-- That is told of a character in the text, which with those behind it are so many.
pub record ToldAt (text : List ℕ) (reason : Reason) (left : ℕ) : Type 0 where
  pub before : List ℕ
  pub first : ℕ
  pub more : List ℕ
  pub whole : text ≡ before ++ first ∷ more
  pub counted : left ≡ length (first ∷ more)
  pub tells : TellsOf reason first

-- A fault names the column of a character of the text, counted from 1, and tells that of it.
abbrev pub Tells : List ℕ → TokenFault → Type 0
Tells text OutOfMemory = Unit {0}
Tells text (Unread column reason) =
    (1 ≤ column) × (column ≤ length text) × TellsOf reason (slice_index text (column - 1))
