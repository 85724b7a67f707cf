-- The texts of options and flags (profile).
use Rattle.std.specs.Prelude.{◌≡◌, Bool, true, false, List, ℕ, codes, Option, Some, None, unwrap_or}
use Rattle.clap.specs.Walk.{Row, first_of}

-- A flag is set where its text is "true", and not where it is "false" or where there is none.
pub record IsFlag (text : Option (List ℕ)) (is_set : Bool) : Type 0 where
  pub given : text ≡ Some (codes "true") → is_set ≡ true
  pub denied : text ≡ Some (codes "false") → is_set ≡ false
  pub absent : text ≡ None → is_set ≡ false

-- The text of an option that is a word, or its default where it is not given.
abbrev pub word_text : (name default : List ℕ) → List Row → List ℕ
word_text name default rows = unwrap_or (first_of name rows) default
