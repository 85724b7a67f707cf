-- Laws of what a live page shows of control lines.
use Rattle.std.specs.Prelude.{◌≡◌, ◌≢◌, ◌⊎◌, ℕ, true, false, List, [], ◌∷◌, ◌++◌, All, codes, Option, Some, None}
use Rattle.std.specs.Prelude.{filter, find}
use Rattle.std.specs.Str.{bytes_eq}
use Rattle.serde_json.specs.Data.{Data}
use Rattle.page.specs.Members.{name_of, number_or_0}
use Rattle.page.specs.Shown.{is_element, is_stored, tells, told, names_set, new_service}
use Rattle.page.specs.Air.{Air, no_air, set_of, after_message, after_telling}
use Rattle.page.specs.Answered.{is_of_encoder, is_acknowledged, is_in_doubt}
use Rattle.page.specs.Counts.{Counts, counted, is_kind, is_sent}
use Rattle.page.specs.ControlLine.{Arrived, Line, new_line, is_named, air_shown, line_after, line_behind}
use Rattle.page.specs.State.{State, at_first, shown_of}

-- Of objects those that name this control line.
abbrev pub of_line : (name : List ℕ) → List Arrived → List Arrived
of_line name ds = filter (λ d. bytes_eq (name_of d.object) name) ds

-- What these make of it where nothing else was told.
abbrev pub alone : (name : List ℕ) → List Arrived → Line
alone name ds = line_behind (of_line name ds) (new_line name)

-- What is shown under this name.
abbrev pub card : (name : List ℕ) → State → Option Line
card name s = find (is_named name) s.lines

-- Law: what is shown of a control line is what the objects that name it make of it, with the times at which they came,
-- whatever was told of others, and whenever; it is not shown only where none named it, or where objects were of a
-- further one.
abbrev pub LineAlone : Type 0
LineAlone = (ds : List Arrived) (name : List ℕ) → let s = shown_of ds at_first in
    (card name s ≡ Some (alone name ds)) ⊎ ((card name s ≡ None) × ((of_line name ds ≡ []) ⊎ (s.further ≢ 0)))

-- None has the name of one before it.
abbrev pub AreDistinct : List Line → Type 0
AreDistinct [] = Unit {0}
AreDistinct (l ∷ ls) = (find (is_named l.name) ls ≡ None) × AreDistinct ls

-- Law: no control line is shown twice.
abbrev pub LineOnce : Type 0
LineOnce = (ds : List Arrived) → AreDistinct (shown_of ds at_first).lines

-- Law: behind a store, and whatever comes behind that, nothing is on the air that was told before.
abbrev pub StoreClears : Type 0
StoreClears = (d : Arrived) (l l' : Line) → is_kind (codes "store") d.object ≡ true → l.air.answers ≡ l'.air.answers
    → ((line_after d l).air.services ≡ []) × ((line_after d l).air.frame ≡ None)
    × ((ds : List Arrived) → (line_behind (d ∷ ds) l).air ≡ (line_behind (d ∷ ds) l').air)

-- Law: behind a store, the service of a set that is told first is the main one there: what is told by 0 and what is
-- told by its number are told of that one service, whether the set is named itself or is one of those that are meant.
abbrev pub MainOnce : Type 0
MainOnce = (d e : Data) (s : Air) → s.services ≡ [] → is_stored d ≡ true → is_element (codes "select") d ≡ false
    → tells e ≡ true → is_element (codes "select") e ≡ false
    → names_set s.current (set_of s e) (set_of s d) ≡ true
    → let n = number_or_0 (codes "service") d in let m = number_or_0 (codes "service") e in
    ((m ≡ 0) ⊎ (m ≡ n))
    → (after_telling e (after_telling d s)).services ≡ told e (told d (new_service (set_of s d) n true)) ∷ []

-- Law: no object counts as a message under both ends, and what was sent rises by nothing but an answer.
abbrev pub CountedOnce : Type 0
CountedOnce = (d : Data) (c : Counts) →
    (((counted d c).sent ≡ c.sent) ⊎ ((counted d c).messages ≡ c.messages))
    × (is_sent d ≡ false → (counted d c).sent ≡ c.sent)

-- Of objects those that the encoder's end tells, and the answers by which it acknowledged a message of the studio's.
abbrev pub of_encoder : List Arrived → List Arrived
of_encoder ds = filter (λ d. is_of_encoder d.object) ds

abbrev pub acknowledged : List Arrived → List Arrived
acknowledged ds = filter (λ d. is_acknowledged d.object) ds

-- What is on the air behind messages that were applied, one after another.
abbrev pub behind_messages : List Arrived → Air → Air
behind_messages [] s = s
behind_messages (d ∷ ds) s = behind_messages ds (after_message d.object s)

-- Law: where the encoder's end told anything, what is shown is what it told, whatever its studio was answered, before
-- and since; where only the studio's end tells, it is shown as that was answered.
abbrev pub OneEnd : Type 0
OneEnd = (ds : List Arrived) (name : List ℕ) → let l = line_behind ds (new_line name) in
    (of_encoder ds ≢ [] → air_shown l ≡ (line_behind (of_encoder ds) (new_line name)).air)
    × (of_encoder ds ≡ [] → air_shown l ≡ l.answered)

-- Law: as its studio was answered, on the air is what the messages say that were acknowledged, each once and in order,
-- and nothing else: of all of them, or of those since it was in doubt last what the encoder has.
abbrev pub AsAnswered : Type 0
AsAnswered = (ds : List Arrived) → All (λ d. is_in_doubt d.object ≡ false) ds
    → ((name : List ℕ) → (line_behind ds (new_line name)).answered ≡ behind_messages (acknowledged ds) no_air)
    × ((before : List Arrived) (d : Arrived) (l : Line) → is_in_doubt d.object ≡ true
    → (line_behind (before ++ d ∷ ds) l).answered ≡ behind_messages (acknowledged ds) no_air)
