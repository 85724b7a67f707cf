-- No line goes on from where one stops.
use Rattle.std.proofs.Common.{◌≡◌, ℕ, ◌⊎◌, false, List, [], ◌∷◌, ◌++◌, length}
use Rattle.std.proofs.Common.{refl, sym, ◌∙◌, ap, subst, inl, inr, arith, append_assoc}
use Rattle.std.specs.List.{All}
use Rattle.std.proofs.lemmas.List.{length-append, append-nil}
use Rattle.std.proofs.lemmas.List.Splits.{slice_split_none, slice_split_at}
use Rattle.std.proofs.lemmas.List.Elements.{All-append, All-cons, All-nil, All-head, All-tail}
use Rattle.rds_text.specs.declared.programme_type.Region.{Region}
use Rattle.phrase_tokens.specs.Tokens.{Token, Word, Quoted, Semicolon}
use Rattle.uecp_phrases.specs.Lines.{ends_phrase, phrases_in, AddsBytes, AddEach}
use Rattle.uecp_phrases.specs.Faults.{begins_behind, IsUnsaid}
use Rattle.uecp_phrases.specs.Expecting.{MayNotStand, IsStop, IsRead}
use Rattle.uecp_phrases.specs.Laws.{IsFirstStop}

-- None of the tokens ends a phrase.
abbrev NoneEnds : List Token → Type 0
NoneEnds l = All (λ t. ends_phrase t ≡ false) l

-- The tokens up to the first semicolon, and what is left from there on.
record FirstCut (tokens : List Token) : Type 0 where
  phrase : List Token
  left : List Token
  whole : tokens ≡ phrase ++ left
  none : NoneEnds phrase
  ends : (left ≡ []) ⊎ ((others : List Token) × (left ≡ Semicolon ∷ others))

none_more : (t : Token) (l : List Token) → ends_phrase t ≡ false → NoneEnds l → NoneEnds (t ∷ l)
none_more t l e n = All-cons (λ x. ends_phrase x ≡ false) t l e n

cut_more : (t : Token) (tokens : List Token) → ends_phrase t ≡ false → FirstCut tokens → FirstCut (t ∷ tokens)
cut_more t tokens e c = record {
  phrase = t ∷ c.phrase;
  left = c.left;
  whole = ap (λ l. t ∷ l) c.whole;
  none = none_more t c.phrase e c.none;
  ends = c.ends;
}

first_cut : (tokens : List Token) → FirstCut tokens
first_cut [] = record {
  phrase = [];
  left = [];
  whole = refl;
  none = All-nil (λ x. ends_phrase x ≡ false);
  ends = inl refl;
}
first_cut (Semicolon ∷ tokens) = record {
  phrase = [];
  left = Semicolon ∷ tokens;
  whole = refl;
  none = All-nil (λ x. ends_phrase x ≡ false);
  ends = inr (tokens, refl);
}
first_cut (Word w ∷ tokens) = cut_more (Word w) tokens refl (first_cut tokens)
first_cut (Quoted b ∷ tokens) = cut_more (Quoted b) tokens refl (first_cut tokens)

-- The phrases of such tokens: the first, and those behind its semicolon, if there is one.
cut_last : (p left : List Token) → NoneEnds p → left ≡ [] → phrases_in (p ++ left) ≡ p ∷ []
cut_last p left none is =
    ap (λ l. phrases_in (p ++ l)) is ∙ ap phrases_in (append-nil p) ∙ slice_split_none ends_phrase p none

cut_next : (p left others : List Token) → NoneEnds p → left ≡ Semicolon ∷ others
    → phrases_in (p ++ left) ≡ p ∷ phrases_in others
cut_next p left others none is =
    ap (λ l. phrases_in (p ++ l)) is ∙ slice_split_at ends_phrase p Semicolon others none refl

-- Phrases that stand in front are those of the tokens in front.
record FrontOf (tokens : List Token) (before : List (List Token)) (phrase : List Token) : Type 0 where
  front : List Token
  left : List Token
  whole : tokens ≡ front ++ (phrase ++ left)
  counted : length front ≡ begins_behind before
  behind : (l : List Token) → phrases_in (front ++ l) ≡ before ++ phrases_in l
  none : NoneEnds phrase
  ends : (left ≡ []) ⊎ ((others : List Token) × (left ≡ Semicolon ∷ others))

front_of : (tokens : List Token) (before : List (List Token)) (phrase : List Token) (others : List (List Token))
    → phrases_in tokens ≡ before ++ (phrase ∷ others) → FrontOf tokens before phrase
front_of tokens [] phrase others is =
    by (first_cut tokens)
  where
    first_is : (c : FirstCut tokens) → (c.left ≡ []) ⊎ ((more : List Token) × (c.left ≡ Semicolon ∷ more))
        → c.phrase ≡ phrase
    first_is c (inl none) =
        let e : phrase ∷ others ≡ c.phrase ∷ [] =
        sym is ∙ ap phrases_in c.whole ∙ cut_last c.phrase c.left c.none none in cc e
    first_is c (inr (more, left)) =
        let e : phrase ∷ others ≡ c.phrase ∷ phrases_in more =
        sym is ∙ ap phrases_in c.whole ∙ cut_next c.phrase c.left more c.none left in cc e

    by : FirstCut tokens → FrontOf tokens [] phrase
    by c = let same = first_is c c.ends in record {
      front = [];
      left = c.left;
      whole = c.whole ∙ ap (λ p. p ++ c.left) same;
      counted = refl;
      behind = λ l. refl;
      none = subst NoneEnds same c.none;
      ends = c.ends;
    }
front_of tokens (first ∷ before) phrase others is =
    by (first_cut tokens) (first_cut tokens).ends (λ more next. front_of more before phrase others next)
  where
    nothing : (before : List (List Token)) → [] ≡ before ++ (phrase ∷ others) → ⊥
    nothing [] e = cc e
    nothing (b ∷ bs) e = cc e

    by : (c : FirstCut tokens) → (c.left ≡ []) ⊎ ((more : List Token) × (c.left ≡ Semicolon ∷ more))
        → ((more : List Token) → phrases_in more ≡ before ++ (phrase ∷ others) → FrontOf more before phrase)
        → FrontOf tokens (first ∷ before) phrase
    by c (inl none) deeper =
        let e : first ∷ (before ++ (phrase ∷ others)) ≡ c.phrase ∷ [] =
        sym is ∙ ap phrases_in c.whole ∙ cut_last c.phrase c.left c.none none in
        let f : [] ≡ before ++ (phrase ∷ others) = cc e in absurd (nothing before f)
    by c (inr (more, left)) deeper =
        let e : first ∷ (before ++ (phrase ∷ others)) ≡ c.phrase ∷ phrases_in more =
        sym is ∙ ap phrases_in c.whole ∙ cut_next c.phrase c.left more c.none left in
        let same : c.phrase ≡ first = cc e in
        let next : phrases_in more ≡ before ++ (phrase ∷ others) = cc e in
        let rest = deeper more next in
        let first_none = subst NoneEnds same c.none in
        record {
          front = first ++ (Semicolon ∷ rest.front);
          left = rest.left;
          whole = c.whole ∙ ap (λ p. p ++ c.left) same ∙ ap (λ l. first ++ l) left
              ∙ ap (λ l. first ++ (Semicolon ∷ l)) rest.whole
              ∙ sym (append_assoc first (Semicolon ∷ rest.front) (phrase ++ rest.left));
          counted = length-append first (Semicolon ∷ rest.front)
              ∙ (let n = rest.counted in omega (arith, n));
          behind = λ l. ap phrases_in (append_assoc first (Semicolon ∷ rest.front) l)
              ∙ slice_split_at ends_phrase first Semicolon (rest.front ++ l) first_none refl
              ∙ ap (λ ps. first ∷ ps) (rest.behind l);
          none = rest.none;
          ends = rest.ends;
        }

-- Two fronts of one length are one.
record SameFront (a b x y : List Token) : Type 0 where
  fronts : a ≡ b
  rests : x ≡ y

same_front : (a b x y : List Token) → a ++ x ≡ b ++ y → length a ≡ length b → SameFront a b x y
same_front [] [] x y e n = record { fronts = refl; rests = e }
same_front [] (u ∷ b) x y e n = absurd (omega (arith, n))
same_front (t ∷ a) [] x y e n = absurd (omega (arith, n))
same_front (t ∷ a) (u ∷ b) x y e n =
    let first : t ≡ u = cc e in
    let more : a ++ x ≡ b ++ y = cc e in
    let same = same_front a b x y more (omega (arith, n)) in
    record { fronts = ap (λ h. h ∷ a) first ∙ ap (λ l. u ∷ l) same.fronts; rests = same.rests }

-- The phrase that stands there in what the phrases say.
phrase_there : (region : Region) (before : List (List Token)) (phrase : List Token) (others : List (List Token))
    (message : List ℕ) → AddEach region (before ++ (phrase ∷ others)) message
    → (bytes : List ℕ) × AddsBytes region phrase bytes
phrase_there region [] phrase others message (bytes, _, _, adds, _) = (bytes, adds)
phrase_there region (b ∷ before) phrase others message (_, left, _, _, each) =
    phrase_there region before phrase others left each

-- What stands in front of tokens of one phrase is the front of it.
cut_behind : (front l : List Token) → NoneEnds front
    → (q : List Token) × (ps : List (List Token)) × (phrases_in (front ++ l) ≡ (front ++ q) ∷ ps)
cut_behind front l none = by (first_cut l) (first_cut l).ends
  where
    all : (c : FirstCut l) → NoneEnds (front ++ c.phrase)
    all c = All-append (λ x. ends_phrase x ≡ false) front c.phrase none c.none

    whole : (c : FirstCut l) → phrases_in (front ++ l) ≡ phrases_in ((front ++ c.phrase) ++ c.left)
    whole c = ap (λ x. phrases_in (front ++ x)) c.whole ∙ ap phrases_in (sym (append_assoc front c.phrase c.left))

    by : (c : FirstCut l) → (c.left ≡ []) ⊎ ((more : List Token) × (c.left ≡ Semicolon ∷ more))
        → (q : List Token) × (ps : List (List Token)) × (phrases_in (front ++ l) ≡ (front ++ q) ∷ ps)
    by c (inl none) = (c.phrase, [], whole c ∙ cut_last (front ++ c.phrase) c.left (all c) none)
    by c (inr (more, left)) =
        (c.phrase, phrases_in more, whole c ∙ cut_next (front ++ c.phrase) c.left more (all c) left)

-- A phrase of some tokens that adds bytes is read.
some_read : (region : Region) (front : List Token) (t : Token) (l : List Token) (bytes : List ℕ)
    → AddsBytes region (front ++ t ∷ l) bytes → IsRead region (front ++ t ∷ l)
some_read region [] t l bytes (inl (none, _)) = absurd (cc none)
some_read region (u ∷ front) t l bytes (inl (none, _)) = absurd (cc none)
some_read region front t l bytes (inr phrase) = (bytes, phrase)

none_front : (a b : List Token) → NoneEnds (a ++ b) → NoneEnds a
none_front [] b none = All-nil (λ x. ends_phrase x ≡ false)
none_front (t ∷ a) b none =
    none_more t a (All-head (λ x. ends_phrase x ≡ false) t (a ++ b) none)
    (none_front a b (All-tail (λ x. ends_phrase x ≡ false) t (a ++ b) none))

pub first_stop : IsFirstStop
first_stop region tokens front rest more t expected message told long is say =
    by_unsaid told.unsaid
  where
    there : FrontOf tokens told.before told.phrase
    there = front_of tokens told.before told.phrase told.others told.whole

    -- the tokens as they stand before the stop and from it on
    same : (stop : IsStop region (IsRead region) told.phrase expected told.left)
        → SameFront front (there.front ++ stop.before) (t ∷ rest) (stop.rest ++ there.left)
    same stop =
        let whole : front ++ (t ∷ rest) ≡ (there.front ++ stop.before) ++ (stop.rest ++ there.left) =
        sym is ∙ there.whole ∙ ap (λ p. there.front ++ (p ++ there.left)) stop.whole
        ∙ ap (λ l. there.front ++ l) (append_assoc stop.before stop.rest there.left)
        ∙ sym (append_assoc there.front stop.before (stop.rest ++ there.left)) in
        let place = told.place in
        let counted = there.counted in
        let own = ap length stop.whole ∙ length-append stop.before stop.rest in
        let left = stop.counted in
        let all = length-append there.front stop.before in
        same_front front (there.front ++ stop.before) (t ∷ rest) (stop.rest ++ there.left) whole
        (omega (arith, place, counted, own, left, all))

    -- what the line says from the phrase on
    cut : (stop : IsStop region (IsRead region) told.phrase expected told.left) (u : Token) → t ≡ u
        → phrases_in (front ++ t ∷ more) ≡ told.before ++ phrases_in (stop.before ++ u ∷ more)
    cut stop u u_is =
        ap (λ f. phrases_in (f ++ t ∷ more)) (same stop).fronts
        ∙ ap (λ x. phrases_in ((there.front ++ stop.before) ++ x ∷ more)) u_is
        ∙ ap phrases_in (append_assoc there.front stop.before (u ∷ more))
        ∙ there.behind (stop.before ++ u ∷ more)

    at_end : (stop : IsStop region (IsRead region) told.phrase expected told.left) → stop.rest ≡ []
        → (others : List Token)
        → there.left ≡ Semicolon ∷ others → ⊥
    at_end stop none others left =
        let e : t ∷ rest ≡ Semicolon ∷ others =
        (same stop).rests ∙ ap (λ r. r ++ there.left) none ∙ left in
        let t_is : t ≡ Semicolon = cc e in
        let own : told.phrase ≡ stop.before =
        stop.whole ∙ ap (λ r. stop.before ++ r) none ∙ append-nil stop.before in
        let first = slice_split_at ends_phrase stop.before Semicolon more (subst NoneEnds own there.none) refl in
        let each = subst (λ l. AddEach region l message)
        (cut stop Semicolon t_is ∙ ap (λ l. told.before ++ l) first) say in
        let adds = phrase_there region told.before stop.before (phrases_in more) message each in
        by_adds adds.0 own adds.1
      where
        by_adds : (bytes : List ℕ) → told.phrase ≡ stop.before → AddsBytes region stop.before bytes → ⊥
        by_adds bytes own (inl (empty, nothing)) =
            let size = ap length nothing in
            let few = told.few in
            told.fault bytes (inl (own ∙ empty, nothing)) (omega (arith, size, few))
        by_adds bytes own (inr phrase) =
            subst (λ r. MayNotStand region expected r) none stop.none (stop.next.ends (bytes, phrase))

    at_token : (stop : IsStop region (IsRead region) told.phrase expected told.left) (u : Token) (r : List Token)
        → stop.rest ≡ u ∷ r → ⊥
    at_token stop u r rest_is =
        let e : t ∷ rest ≡ u ∷ (r ++ there.left) = (same stop).rests ∙ ap (λ x. x ++ there.left) rest_is in
        let t_is : t ≡ u = cc e in
        let own : told.phrase ≡ (stop.before ++ (u ∷ [])) ++ r =
        stop.whole ∙ ap (λ x. stop.before ++ x) rest_is ∙ sym (append_assoc stop.before (u ∷ []) r) in
        let none = none_front (stop.before ++ (u ∷ [])) r (subst NoneEnds own there.none) in
        let found = cut_behind (stop.before ++ (u ∷ [])) more none in
        let first : phrases_in (stop.before ++ u ∷ more) ≡ (stop.before ++ u ∷ found.0) ∷ found.1 =
        ap phrases_in (sym (append_assoc stop.before (u ∷ []) more)) ∙ found.2
        ∙ ap (λ p. p ∷ found.1) (append_assoc stop.before (u ∷ []) found.0) in
        let each = subst (λ l. AddEach region l message) (cut stop u t_is ∙ ap (λ l. told.before ++ l) first) say in
        let adds = phrase_there region told.before (stop.before ++ u ∷ found.0) found.1 message each in
        subst (λ x. MayNotStand region expected x) rest_is stop.none
        (stop.next.only u found.0 (some_read region stop.before u found.0 adds.0 adds.1))

    by_ends : (stop : IsStop region (IsRead region) told.phrase expected told.left) → stop.rest ≡ []
        → (there.left ≡ []) ⊎ ((others : List Token) × (there.left ≡ Semicolon ∷ others)) → ⊥
    by_ends stop none (inl left) =
        let e : t ∷ rest ≡ [] = (same stop).rests ∙ ap (λ r. r ++ there.left) none ∙ left in cc e
    by_ends stop none (inr (others, left)) = at_end stop none others left

    by_rest : (stop : IsStop region (IsRead region) told.phrase expected told.left) (r : List Token) → stop.rest ≡ r → ⊥
    by_rest stop [] rest_is = by_ends stop rest_is there.ends
    by_rest stop (u ∷ r) rest_is = at_token stop u r rest_is

    by_unsaid : IsUnsaid region told.said told.phrase expected told.left → ⊥
    by_unsaid (inl stop) = by_rest stop stop.rest refl
    by_unsaid (inr (_, _, short, _)) = long short
