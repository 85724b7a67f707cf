-- The laws of a store that is said: it can be told to an encoder, line by line.
use Rattle.std.specs.Prelude.{◌≡◌, ℕ, List, [], ◌∷◌, ◌++◌, map, codes, chars, encode_utf8_all, Some, None}
use Rattle.std.specs.List.{AllByRecursion}
use Rattle.uecp_elements.specs.declared.code.Code.TheVariants.{Applied}
use Rattle.uecp_elements.specs.Grammar.{Element, IsElement, AreBytes, spelling}
use Rattle.uecp_text.specs.Input.{lines_of, said}
use Rattle.rds_store.specs.declared.group.Group.{Group}
use Rattle.rds_store.specs.Value.{Store}
use Rattle.rds_store.specs.Put.{put}
use Rattle.rds_store.specs.Step.{step, group_taken}
use Rattle.rds_store.specs.Opening.{opening, fault_of}
use Rattle.rds_store.specs.Laws.{PutsEach}
use Rattle.rds_text.specs.declared.programme_type.Region.{Region}
use Rattle.phrase_tokens.specs.Tokens.{Token, Lays}
use Rattle.uecp_phrases.specs.Lines.{Say}
use Rattle.store_phrases.specs.Said.{said_of, said_lines}
use Rattle.store_phrases.specs.Station.{IsStation}

-- ---- What is told, and to whom.

-- The messages that tell a store, one for each of its elements. (profile)
abbrev pub messages_of : Store → List (List ℕ)
messages_of v = map spelling (said_of v)

-- The groups that wait once these were said: these, or where there is none those that waited before. (profile)
abbrev pub groups_left : (said held : List Group) → List Group
groups_left [] held = held
groups_left (g ∷ gs) held = g ∷ gs

-- The store that an encoder has once a store was told to it: that one, with the encoder's groups where none waits in
-- it. (profile)
abbrev pub told : (said held : Store) → Store
told said held = record said { groups = groups_left said.groups held.groups }

-- Both are stores that can be, with the same number of sets and the same services. (profile)
pub record AreAlike (v w : Store) : Type 0 where
  pub said : IsStation v
  pub held : IsStation w
  pub sets : w.sets ≡ v.sets
  pub services : w.services ≡ v.services

-- ---- Line by line.

-- A line, whose last byte is a line feed, says the message: what is heard of it are characters in which tokens stand
-- that say it. (profile)
pub record LineSays (region : Region) (line message : List ℕ) : Type 0 where
  pub text : List ℕ
  pub tokens : List Token
  pub ended : line ≡ encode_utf8_all text ++ codes "\n"
  pub heard : said line ≡ Some (encode_utf8_all text)
  pub read : chars (encode_utf8_all text) ≡ text
  pub lays : Lays tokens text
  pub says : Say region tokens message

-- The lines say these messages, each one. (profile)
abbrev pub LinesSay : Region → (lines messages : List (List ℕ)) → Type 0
LinesSay region [] [] = Unit {0}
LinesSay region (l ∷ ls) (m ∷ ms) = LineSays region l m × LinesSay region ls ms
LinesSay region [] (m ∷ ms) = ⊥
LinesSay region (l ∷ ls) [] = ⊥

-- The messages, applied to a store one after another, are each answered with 00, and leave that store. (profile)
abbrev pub AppliesEach : Store → (messages : List (List ℕ)) → (after : Store) → Type 0
AppliesEach v [] after = after ≡ v
AppliesEach v (m ∷ ms) after = ((step v m).1 ≡ Applied) × AppliesEach (step v m).0 ms after

-- ---- Laws.

-- Law, and what the crate is for: the lines of a store say one message each, and these messages, applied in order to
-- any store that is alike, are each answered with 00 and leave the store that was said. (profile)
abbrev pub IsStoreSaid : Type 0
IsStoreSaid =
    (region : Region) (v w : Store) → AreAlike v w
    → LinesSay region (lines_of (said_lines region v)) (messages_of v) × AppliesEach w (messages_of v) (told v w)

-- Law: applied to the opening store with the same sets and services, they leave that very store. (profile)
abbrev pub IsMadeAgain : Type 0
IsMadeAgain =
    (v : Store) → IsStation v → fault_of v.sets v.services ≡ None
    → AppliesEach (opening v.sets v.services) (messages_of v) v

-- Law: the elements of a store, put in order into a store that is alike, are each answered with 00, and leave the store
-- that was said. (profile)
abbrev pub IsSaidByElements : Type 0
IsSaidByElements = (v w : Store) → AreAlike v w → PutsEach w (said_of v) (told v w)

-- Law: each of these elements is one, of bytes. (profile)
abbrev pub AreElements : Type 0
AreElements = (v : Store) → IsStation v → AllByRecursion (λ e. IsElement e × AreBytes (spelling e)) (said_of v)

-- Law: the opening store is one that can be, and elements of bytes, messages of bytes and takes leave one. (profile)
pub record AreStations : Type 0 where
  pub opened : (sets : ℕ) (services : List ℕ) → AreBytes services → fault_of sets services ≡ None
      → IsStation (opening sets services)
  pub element : (v : Store) (e : Element) → IsStation v → IsElement e → AreBytes (spelling e) → IsStation (put v e).0
  pub message : (v : Store) (m : List ℕ) → IsStation v → AreBytes m → IsStation (step v m).0
  pub take : (v : Store) → IsStation v → IsStation (group_taken v).0
