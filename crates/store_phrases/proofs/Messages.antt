-- A store that is said message by message, and line by line.
use Rattle.std.proofs.Common.{◌≡◌, List, [], ◌∷◌, ◌++◌, map, Ok, None, refl, sym, ap, subst, ◌∙◌}
use Rattle.std.proofs.Common.{append-nil}
use Rattle.std.specs.List.{AllByRecursion}
use Rattle.uecp_elements.specs.declared.code.Code.TheVariants.{Applied}
use Rattle.uecp_elements.specs.Grammar.{AreBytes, Element, Reading, Reads, IsElement, spelling}
use Rattle.uecp_elements.specs.Reading.{items, items_of}
use Rattle.uecp_elements.proofs.Public.{has_reading, only_reading}
use Rattle.rds_store.specs.Value.{Store}
use Rattle.rds_store.specs.Put.{put}
use Rattle.rds_store.specs.Step.{step}
use Rattle.rds_store.specs.Laws.{PutsEach}
use Rattle.rds_store.proofs.Public.{whole_message_is_applied}
use Rattle.rds_text.specs.declared.programme_type.Region.{Region}
use Rattle.phrase_tokens.specs.Tokens.{written_tokens}
use Rattle.phrase_tokens.proofs.Public.{read_back, through_utf8}
use Rattle.uecp_phrases.specs.Lines.{Say}
use Rattle.uecp_phrases.specs.Written.{phrase_of, phrase_of_item, line_of, joined}
use Rattle.uecp_phrases.proofs.Public.{writable, message_said}
use Rattle.store_phrases.specs.Said.{said_of, line}
use Rattle.store_phrases.specs.Laws.{messages_of, groups_left, told, AreAlike, LineSays, LinesSay, AppliesEach}
use Rattle.store_phrases.specs.Laws.{IsStoreSaid, IsMadeAgain}
use Rattle.store_phrases.proofs.Places.{all_more}
use Rattle.store_phrases.proofs.Elements.{IsSayable, all_sayable}
use Rattle.store_phrases.proofs.Telling.{said_by_elements}
use Rattle.store_phrases.proofs.Lines.{each_line}
use Rattle.store_phrases.proofs.Heard.{line_heard}
use Rattle.store_phrases.proofs.Stations.{are_stations}
use Rattle.rds_store.specs.declared.group.Group.{Group as WaitingGroup}
use Rattle.rds_store.specs.Opening.{opening}
use Rattle.std.proofs.Common.{◌≤◌, ◌<◌}

-- ---- A message of one element.
abbrev alone : Element → Reading
alone e = record { elements = e ∷ []; fault = None }

reads_alone : (e : Element) → IsElement e → Reads (spelling e) (alone e)
reads_alone e h = record {
  rest = [];
  each = (h, tt);
  joined = sym (append-nil (spelling e ++ []) ∙ append-nil (spelling e));
  end = refl;
}

put_by_message : (v : Store) (e : Element) → IsSayable e → (put v e).1 ≡ Applied
    → step v (spelling e) ≡ ((put v e).0, Applied)
put_by_message v e h applied =
    whole_message_is_applied v (spelling e) (alone e) (put v e).0 h.1 (reads_alone e h.0) refl (applied, refl)

applies : (v : Store) (es : List Element) (w : Store) → AllByRecursion IsSayable es → PutsEach v es w
    → AppliesEach v (map spelling es) w
applies v [] w h puts = puts
applies v (e ∷ es) w h puts =
    let one = put_by_message v e h.0 puts.0 in (
      ap (λ r. r.1) one,
      subst (λ x. AppliesEach x (map spelling es) w) (sym (ap (λ r. r.0) one)) (applies (put v e).0 es w h.1 puts.1),
    )

told_by_messages : (v w : Store) → AreAlike v w → AppliesEach w (messages_of v) (told v w)
told_by_messages v w alike =
    applies w (said_of v) (told v w) (all_sayable v alike.said) (said_by_elements v w alike)

-- ---- A line of one element.
items_alone : (e : Element) → IsSayable e → items (spelling e) ≡ Ok e ∷ []
items_alone e h =
    let one = has_reading (spelling e) h.1 in
    one.2 ∙ ap items_of (only_reading (spelling e) h.1 one.0 (alone e) one.1 (reads_alone e h.0))

line_alone : (region : Region) (e : Element) → IsSayable e → line_of region (spelling e) ≡ phrase_of region e
line_alone region e h = ap (λ is. joined (map (phrase_of_item region (spelling e)) is)) (items_alone e h)
    ∙ append-nil (phrase_of region e)

line_says : (region : Region) (e : Element) → IsSayable e → LineSays region (line region e) (spelling e)
unfolding line
line_says region e h =
    let tokens = writable region e h.0 h.1 in
    record {
      text = written_tokens (phrase_of region e);
      tokens = phrase_of region e;
      ended = refl;
      heard = line_heard region e h;
      read = (through_utf8 (phrase_of region e) tokens).1;
      lays = read_back (phrase_of region e) tokens;
      says = subst (λ ts. Say region ts (spelling e)) (line_alone region e h)
          (message_said region (spelling e) h.1);
    }

lines_say : (region : Region) (es : List Element) → AllByRecursion IsSayable es
    → LinesSay region (map (line region) es) (map spelling es)
lines_say region [] h = tt
lines_say region (e ∷ es) h = (line_says region e h.0, lines_say region es h.1)

pub store_said : IsStoreSaid
store_said region v w alike =
    let sayable = all_sayable v alike.said in (
      subst (λ ls. LinesSay region ls (messages_of v)) (sym (each_line region (said_of v) sayable))
          (lines_say region (said_of v) sayable),
      told_by_messages v w alike,
    )

-- ---- From the opening store.
nothing_held : (gs : List WaitingGroup) → groups_left gs [] ≡ gs
nothing_held [] = refl
nothing_held (g ∷ gs) = refl

pub made_again : IsMadeAgain
made_again v h allowed =
    let bytes : AreBytes v.services = all_more (λ n. (1 ≤ n) × (n < 0x100)) (λ n. n < 0x100) (λ n k. k.1) v.services
    h.numbers in
    let alike : AreAlike v (opening v.sets v.services) = record {
      said = h;
      held = are_stations.opened v.sets v.services bytes allowed;
      sets = refl;
      services = refl;
    } in
    subst (AppliesEach (opening v.sets v.services) (messages_of v)) (λ i. record v { groups = nothing_held v.groups i })
    (told_by_messages v (opening v.sets v.services) alike)
