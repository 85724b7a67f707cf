-- With which texts the A/B flag turns.
use Rattle.std.proofs.Common.{◌≡◌, ℕ, ◌+◌, ◌*◌, ◌-◌, ◌%◌, ◌≤◌, ◌||◌, Bool, true, false, List, [], ◌∷◌, ◌++◌, length}
use Rattle.std.proofs.Common.{flat_map, replicate, Some, is_some, refl, ◌∙◌, ap, subst, inl, inr, arith, if◌then◌else◌}
use Rattle.std.specs.List.{AllByRecursion, onto_first}
use Rattle.std.proofs.lemmas.Bool.{false≢true}
use Rattle.std.proofs.lemmas.List.{length-append, length-replicate}
use Rattle.uecp_elements.specs.Grammar.{Part, NoText, Text, Element, Pi, Ps, TaTp, Ms, Pty, Rt, Select, Group, Ack}
use Rattle.uecp_elements.specs.Grammar.{spelling, IsElement}
use Rattle.rds_text.specs.declared.programme_type.Region.{Region}
use Rattle.phrase_tokens.specs.Tokens.{Token}
use Rattle.uecp_phrases.specs.declared.head.Head.{Head}
use Rattle.uecp_phrases.specs.declared.head.Head.TheVariants as head
use Rattle.uecp_phrases.specs.Phrases.{Choice, Adds, Toggles, Stays, Times, Choices, choice_tokens, AreMade, no_choice}
use Rattle.uecp_phrases.specs.Phrases.{is_turned, times_of, head_of, IsRadioText, IsHead, set_said}
use Rattle.uecp_phrases.specs.Phrases.{service_said, announcing, giving, Tells, IsPhrase}
use Rattle.uecp_phrases.specs.Lines.{ends_phrase, phrases_in, AddEach}
use Rattle.uecp_phrases.specs.Laws.{IsPlain, Turns, AreTurning, TextsTurn}

abbrev ArePlain : List Token → Type 0
ArePlain tokens = AllByRecursion IsPlain tokens

-- ---- Parts of a line.

behind : (front tokens : List Token) → ArePlain (front ++ tokens) → ArePlain tokens
behind [] tokens plain = plain
behind (t ∷ front) tokens plain = behind front tokens plain.1

onto : (token : Token) (phrases : List (List Token)) → IsPlain token → AllByRecursion ArePlain phrases
    → AllByRecursion ArePlain (onto_first token phrases)
onto token [] plain others = ((plain, tt), tt)
onto token (phrase ∷ phrases) plain others = ((plain, others.0), others.1)

cut : (tokens : List Token) → ArePlain tokens → AllByRecursion ArePlain (phrases_in tokens)
cut [] plain = (tt, tt)
cut (t ∷ tokens) plain = by (ends_phrase t) (cut tokens plain.1)
  where
    by : (b : Bool) → AllByRecursion ArePlain (phrases_in tokens)
        → AllByRecursion ArePlain (if b then [] ∷ phrases_in tokens else onto_first t (phrases_in tokens))
    by true others = (tt, others)
    by false others = onto t (phrases_in tokens) plain.0 others

-- ---- A text.

turned : (choices : List Choice) (before made : Choices) → ArePlain (flat_map choice_tokens choices)
    → AreMade before choices made → is_turned before.turns ≡ true → is_turned made.turns ≡ true
turned [] before made plain is turns = ap (λ (m : Choices). is_turned m.turns) is ∙ turns
turned (Adds ∷ choices) before made plain (free, more) turns =
    turned choices (record before { adds = true }) made plain.1 more turns
turned (Toggles ∷ choices) before made plain (free, more) turns =
    turned choices (record before { turns = Some true }) made plain.1 more refl
turned (Stays ∷ choices) before made plain (free, more) turns = absurd (plain.0.not_same refl)
turned (Times count ∷ choices) before made plain (free, (number, counted, more)) turns =
    turned choices (record before { times = Some number }) made plain.1.1 more turns

odd_head : (made : Choices) → is_turned made.turns ≡ true → head_of made % 2 ≡ 1
odd_head made turns = by made.adds (is_turned made.turns) turns
  where
    by : (a b : Bool) → b ≡ true
        → ((if a then 0x40 else 0x00) + (2 * times_of made.times + (if b then 1 else 0))) % 2 ≡ 1
    by true true h = omega arith
    by false true h = omega arith
    by true false h = absurd (false≢true h)
    by false false h = absurd (false≢true h)

-- ---- A phrase.

-- What a phrase adds is an element, and the flag turns with its text.
record AddsTurning (bytes : List ℕ) : Type 0 where
  pub element : Element
  pub spelled : bytes ≡ spelling element
  pub is_one : IsElement element
  pub turns : Turns element

eight : (bytes : List ℕ) → length bytes ≤ 8 → length (bytes ++ replicate (8 - length bytes) 0x20) ≡ 8
eight bytes few =
    let whole = length-append bytes (replicate (8 - length bytes) 0x20) in
    let spaces = length-replicate {A = ℕ} (8 - length bytes) 0x20 in omega (arith, whole, spaces)

text_turns : (dsn psn : ℕ) (part : Part) (tokens : List Token) (bytes : List ℕ) → ArePlain tokens
    → IsRadioText tokens part → bytes ≡ spelling (Rt dsn psn part) → AddsTurning bytes
text_turns dsn psn NoText tokens bytes plain is spelled =
    record { element = Rt dsn psn NoText; spelled = spelled; is_one = tt; turns = tt }
text_turns dsn psn (Text head text) tokens bytes plain (inl (choices, made, whole, (list, same, are), head_is))
    spelled =
    let both = subst ArePlain whole plain in
    record {
      element = Rt dsn psn (Text head text);
      spelled = spelled;
      is_one = both.0.writable.0;
      turns = ap (λ n. n % 2) head_is
          ∙ odd_head made (turned list no_choice made (subst ArePlain same both.1) are refl);
    }
text_turns dsn psn (Text head text) tokens bytes plain (inr (word, whole, byte)) spelled =
    absurd ((subst ArePlain whole plain).0.not_bits refl)

told_turns : (region : Region) (h : Head) (placed : Bool) (dsn psn : ℕ) (first : Token) (tokens : List Token)
    (bytes : List ℕ) → IsHead first h → ArePlain (first ∷ tokens) → Tells region h placed dsn psn tokens bytes
    → AddsTurning bytes
told_turns region head.Pi placed dsn psn first tokens bytes named plain (pi, is, spelled) =
    record { element = Pi dsn psn pi; spelled = spelled; is_one = tt; turns = tt }
told_turns region head.Ps placed dsn psn first tokens bytes named plain (name, (text, whole, few, filled), spelled) =
    record { element = Ps dsn psn name; spelled = spelled; is_one = ap length filled ∙ eight text few; turns = tt }
told_turns region head.Rt placed dsn psn first tokens bytes named plain (part, is, spelled) =
    text_turns dsn psn part tokens bytes plain.1 is spelled
told_turns region head.Traffic placed dsn psn first tokens bytes named plain (raw, is, spelled) =
    record { element = TaTp dsn psn raw; spelled = spelled; is_one = tt; turns = tt }
told_turns region head.Ta placed dsn psn first tokens bytes named plain (on, is, spelled) =
    record { element = TaTp dsn psn (announcing on); spelled = spelled; is_one = tt; turns = tt }
told_turns region head.Tp placed dsn psn first tokens bytes named plain (on, is, spelled) =
    record { element = TaTp dsn psn (giving on); spelled = spelled; is_one = tt; turns = tt }
told_turns region head.Music placed dsn psn first tokens bytes named plain (none, spelled) =
    record { element = Ms dsn psn 1; spelled = spelled; is_one = tt; turns = tt }
told_turns region head.Speech placed dsn psn first tokens bytes named plain (none, spelled) =
    record { element = Ms dsn psn 0; spelled = spelled; is_one = tt; turns = tt }
told_turns region head.Ms placed dsn psn first tokens bytes named plain (raw, is, spelled) =
    record { element = Ms dsn psn raw; spelled = spelled; is_one = tt; turns = tt }
told_turns region head.Pty placed dsn psn first tokens bytes named plain (raw, is, spelled) =
    record { element = Pty dsn psn raw; spelled = spelled; is_one = tt; turns = tt }
told_turns region head.Set placed dsn psn first tokens bytes named plain (nowhere, (set, is, spelled)) =
    record { element = Select set; spelled = spelled; is_one = tt; turns = tt }
told_turns region head.Group placed dsn psn first tokens bytes named plain
    (nowhere, (kind, mode, block3, block4, is, spelled)) =
    record { element = Group kind mode block3 block4; spelled = spelled; is_one = tt; turns = tt }
told_turns region head.Ack placed dsn psn first tokens bytes named plain (nowhere, (code, counter, is, spelled)) =
    record { element = Ack code counter; spelled = spelled; is_one = tt; turns = tt }
told_turns region head.Raw placed dsn psn first tokens bytes named plain told = absurd (plain.0.not_raw named)

phrase_turns : (region : Region) (tokens : List Token) (bytes : List ℕ) → ArePlain tokens
    → IsPhrase region tokens bytes → AddsTurning bytes
phrase_turns region tokens bytes plain p =
    let others = service_said p.service ++ (p.first ∷ p.rest) in
    told_turns region p.head (is_some p.set || is_some p.service) p.dsn p.psn p.first p.rest bytes p.named
    (behind (service_said p.service) (p.first ∷ p.rest)
    (behind (set_said p.set) others (subst ArePlain p.whole plain))) p.told

-- ---- A line.

each_turns : (region : Region) (phrases : List (List Token)) (message : List ℕ) → AllByRecursion ArePlain phrases
    → AddEach region phrases message → AreTurning message
each_turns region [] message plain is = record { elements = []; joined = is; each = tt; turning = tt }
each_turns region (phrase ∷ phrases) message plain (first, others, is, inl none, more) =
    let rest = each_turns region phrases others plain.1 more in
    record {
      elements = rest.elements;
      joined = is ∙ ap (λ l. l ++ others) none.1 ∙ rest.joined;
      each = rest.each;
      turning = rest.turning;
    }
each_turns region (phrase ∷ phrases) message plain (first, others, is, inr one, more) =
    let rest = each_turns region phrases others plain.1 more in
    let turning = phrase_turns region phrase first plain.0 one in
    record {
      elements = turning.element ∷ rest.elements;
      joined = is ∙ ap (λ l. l ++ others) turning.spelled ∙ ap (λ l. spelling turning.element ++ l) rest.joined;
      each = (turning.is_one, rest.each);
      turning = (turning.turns, rest.turning);
    }

pub texts_turn : TextsTurn
texts_turn region tokens message plain says = each_turns region (phrases_in tokens) message (cut tokens plain) says
