-- What a station says in words, between the groups that go out.
use Rattle.std.specs.Prelude.{ℕ, ◌≡◌, ◌⊎◌, true, List, [], ◌∷◌, Option, Some, None}
use Rattle.std.specs.List.{AllByRecursion}
use Rattle.std.specs.FinMap.{get}
use Rattle.uecp_elements.specs.Grammar.{AreBytes}
use Rattle.rds_text.specs.declared.programme_type.Region.{Region}
use Rattle.phrase_tokens.specs.Tokens.{Token}
use Rattle.uecp_phrases.specs.Lines.{Say}
use Rattle.uecp_phrases.specs.Laws.{IsPlain}
use Rattle.titles.specs.declared.title.Titles.{Titles}
use Rattle.titles.specs.declared.title.Title.{Title}
use Rattle.titles.specs.declared.title.Title.TheVariants as title
use Rattle.titles.specs.Titles.{GivesTitle}
use Rattle.rds_store.specs.Value.{Store, ServiceData, StoredText}
use Rattle.rds_store.specs.Step.{step, group_taken}
use Rattle.rds_store.specs.Opening.{opening}
use Rattle.rds_groups.specs.Shown.{Receiver}
use Rattle.carousel.specs.Carousel.{Carousel}
use Rattle.carousel.specs.Next.{aired}
use Rattle.promises.specs.OnAir.{IsStore, PisStay}
use Rattle.promises.specs.AirLaws.{HasHeardBefore, StartIsHeard, ShowsNoMix}

-- ---- What happens at an encoder that is on the air.
-- A message comes, or the next group goes out.
pub data Event : Type 0 where
  Comes : (message : List ℕ) → Event
  GoesOut : Event

-- The store that each group finds which goes out, in order.
abbrev pub stores_of : List Event → Store → Carousel → List Store
stores_of [] v c = []
stores_of (Comes message ∷ events) v c = stores_of events (step v message).0 c
stores_of (GoesOut ∷ events) v c = v ∷ stores_of events (aired v c).1 (aired v c).2

-- The message, of bytes, is what a line of words says, of which none is `same`, `bits` or `raw`.
pub record IsPlainlySaid (region : Region) (message : List ℕ) : Type 0 where
  pub tokens : List Token
  pub plain : AllByRecursion IsPlain tokens
  pub says : Say region tokens message
  pub bytes : AreBytes message

-- The message of a title, where it gives one: as it stands, or made to fit.
abbrev pub title_message : Title → Option (List ℕ)
title_message title.Nothing = None
title_message (title.Stands message) = Some message
title_message (title.Fits message shown) = Some message

-- The message, of bytes, is that of a line's title.
pub record IsTitled (message : List ℕ) : Type 0 where
  pub titles : Titles
  pub line : List ℕ
  pub given : Title
  pub gives : GivesTitle titles line given
  pub is : title_message given ≡ Some message
  pub bytes : AreBytes message

-- It is said in such words, or is a title.
abbrev pub IsSaidSo : Region → (message : List ℕ) → Type 0
IsSaidSo region message = IsPlainlySaid region message ⊎ IsTitled message

-- Each message that comes is.
abbrev pub IsSaid : Region → Event → Type 0
IsSaid region (Comes message) = IsSaidSo region message
IsSaid region GoesOut = Unit {0}

-- ---- Laws.
-- Of each text that a service has in a set the toggle is set.
abbrev pub EachToggles : Store → Type 0
EachToggles v =
    (place : ℕ × ℕ) (s : ServiceData) → get v.places place ≡ Some s
    → AllByRecursion (λ (t : StoredText). t.toggle ≡ true) s.texts

-- Law: a new store has no other text, and such messages, whatever they say, and groups that go out leave none.
pub record TogglesStaySet : Type 0 where
  pub opened : (sets : ℕ) (services : List ℕ) → EachToggles (opening sets services)
  pub message : (region : Region) (v : Store) (message : List ℕ) → IsSaidSo region message → EachToggles v
      → EachToggles (step v message).0
  pub take : (v : Store) → EachToggles v → EachToggles (group_taken v).0

-- Law: where each message is said in such words or is a title, whatever it says and whenever it comes, a receiver that
-- heard nothing of a text, or of the one that is on the air alone, or another station, or held anything and hears an
-- empty text of a start, and misses no group, shows of a text the one that is on the air, or nothing: no mix. A new PI
-- stays for two groups at least.
abbrev pub NoSaidTextIsMixed : Type 0
NoSaidTextIsMixed =
    (region : Region) (events : List Event) (v : Store) (c : Carousel) (r : Receiver)
    → AllByRecursion (IsSaid region) events → EachToggles v
    → let vs = stores_of events v c in
    AllByRecursion IsStore vs → PisStay r.pi vs → HasHeardBefore vs c r ⊎ StartIsHeard vs c → ShowsNoMix vs c r
