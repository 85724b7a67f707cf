-- The nearest of words, one word more after another.
use Rattle.std.proofs.Common.{◌≡◌, ◌⊎◌, ℕ, zero, suc, ◌+◌, ◌≤◌, ◌<◌, Bool, true, false, List, [], ◌∷◌, ◌++◌, Option}
use Rattle.std.proofs.Common.{Some}
use Rattle.std.proofs.Common.{None, refl, ◌∙◌, ap, sym, subst, arith, inl, inr, codes, append_assoc}
use Rattle.std.proofs.Common.{length, map, take, get_or, slice_get}
use Rattle.std.specs.Option.{option_map}
use Rattle.std.proofs.lemmas.Option.{slice_get-map, slice_get_read, slice_get_past}
use Rattle.std.specs.List.{AllByRecursion}
use Rattle.rds_text.specs.declared.programme_type.Region.{Region}
use Rattle.rds_text.specs.ProgrammeTypes.{name_of}
use Rattle.phrase_tokens.specs.Tokens.{Token, Word, Quoted}
use Rattle.phrase_tokens.specs.declared.token.Token.{Token as Held}
use Rattle.phrase_tokens.specs.View.{token_of, tokens_of}
use Rattle.uecp_phrases.specs.declared.expectation.Expectation.{Expectation}
use Rattle.uecp_phrases.specs.declared.expectation.Expectation.TheVariants as what
use Rattle.uecp_phrases.specs.declared.head.Head.{Head}
use Rattle.uecp_phrases.specs.declared.head.Head.TheVariants as head
use Rattle.uecp_phrases.specs.Expecting.{MayStand, acts_somewhere}
use Rattle.uecp_phrases.specs.Phrases.{head_word}
use Rattle.uecp_phrases.proofs.Phrasing.{own_head}
use Rattle.uecp_phrases.specs.declared.nearest.Near.{Near}
use Rattle.uecp_phrases.specs.Nearest.{words_at, the_name, names_below, name_count, offered, OfferedMayStand, IsNear}
use Rattle.uecp_phrases.specs.Nearest.{IsNearest, IsFound, IsFirstWord, Offers, OffersAt, letters_of, distance}

all_more : {A : Type 0} (P : A → Type 0) (xs : List A) (y : A) → AllByRecursion P xs → P y
    → AllByRecursion P (xs ++ y ∷ [])
all_more P [] y all one = (one, tt)
all_more P (x ∷ xs) y all one = (all.0, all_more P xs y all.1 one)

all_weaker : {A : Type 0} (P Q : A → Type 0) → ((x : A) → P x → Q x) → (xs : List A) → AllByRecursion P xs
    → AllByRecursion Q xs
all_weaker P Q weaker [] all = tt
all_weaker P Q weaker (x ∷ xs) all = (weaker x all.0, all_weaker P Q weaker xs all.1)

all_join : {A : Type 0} (P : A → Type 0) (xs ys : List A) → AllByRecursion P xs → AllByRecursion P ys
    → AllByRecursion P (xs ++ ys)
all_join P [] ys front back = back
all_join P (x ∷ xs) ys front back = (front.0, all_join P xs ys front.1 back)

module _ (letters : List ℕ) where
  -- a word that is not near, or no nearer
  pub found_on : (words : List (List ℕ)) (word : List ℕ) (found : Option Near) → IsFound letters words found
      → ((near : Near) → found ≡ Some near → IsNear letters word → near.distance ≤ distance letters word)
      → (found ≡ None → IsNear letters word → ⊥)
      → IsFound letters (words ++ word ∷ []) found
  found_on words word None was no_nearer far =
      (all_more (λ w. IsNear letters w → ⊥) words word was.0 (far refl), was.1)
  found_on words word (Some near) was no_nearer far =
      let (before, behind, are, is_near, farther, no_nearer_behind) = was.0 in
      let counted : near.distance ≡ distance letters near.word.now = was.1 in (
        (
          before,
          behind ++ word ∷ [],
          ap (λ ws. ws ++ word ∷ []) are ∙ append_assoc before (near.word.now ∷ behind) (word ∷ []),
          is_near,
          farther,
          all_more (λ w. IsNear letters w → distance letters near.word.now ≤ distance letters w) behind word
              no_nearer_behind (λ this. let no = no_nearer near refl this in omega (arith, counted, no)),
        ),
        was.1,
      )

  -- a word that is nearer
  pub found_now : (words : List (List ℕ)) (found : Option Near) (near : Near) → IsFound letters words found
      → ((other : Near) → found ≡ Some other → near.distance < other.distance) → IsNear letters near.word.now
      → near.distance ≡ distance letters near.word.now
      → IsFound letters (words ++ near.word.now ∷ []) (Some near)
  found_now words found near was nearer is_near counted =
      ((words, [], refl, is_near, all_farther found was nearer, tt), counted)
    where
      Farther : List ℕ → Type 0
      Farther w = IsNear letters w → distance letters near.word.now < distance letters w

      all_farther : (found : Option Near) → IsFound letters words found
          → ((other : Near) → found ≡ Some other → near.distance < other.distance) → AllByRecursion Farther words
      all_farther None was nearer =
          all_weaker (λ w. IsNear letters w → ⊥) Farther (λ w far this. absurd (far this)) words was.0
      all_farther (Some other) was nearer =
          let (before, behind, are, other_near, farther, no_nearer) = was.0 in
          let other_counted : other.distance ≡ distance letters other.word.now = was.1 in
          let less : near.distance < other.distance = nearer other refl in
          subst (AllByRecursion Farther) (sym are)
          (all_join Farther before (other.word.now ∷ behind)
          (all_weaker (λ w. IsNear letters w → distance letters other.word.now < distance letters w) Farther
          (λ w far this. let d = far this in omega (arith, d, less, counted, other_counted)) before farther) (
            λ this. omega (arith, less, counted, other_counted),
            all_weaker (λ w. IsNear letters w → distance letters other.word.now ≤ distance letters w) Farther
                (λ w far this. let d = far this in omega (arith, d, less, counted, other_counted)) behind no_nearer,
          ))

-- one word more of a list
pub one_word_more : {A : Type 0} (f : A → List ℕ) (words : List A) (place : ℕ) (d : A) → place < length words
    → map f (take place words) ++ f (get_or words place d) ∷ [] ≡ map f (take (place + 1) words)
one_word_more f [] place d below = absurd (omega arith)
one_word_more f (w ∷ ws) zero d below = refl
one_word_more f (w ∷ ws) (suc place) d below = ap (λ rest. f w ∷ rest) (one_word_more f ws place d (omega arith))
    ∙ ap (λ n. map f (take n (w ∷ ws))) (let e : suc (place + 1) ≡ suc place + 1 = omega arith in e)

-- what was found is what is offered
pub offers_found : (region : Region) (expected : Expectation) (t : Token) (letters : List ℕ) (words : List (List ℕ))
    (count : ℕ) (before found : Option Near) → letters ≡ letters_of t → words ≡ words_at expected
    → count ≡ name_count expected → (IsFirstWord t → ⊥) → IsFound letters words before
    → ((ws : List (List ℕ)) → IsFound letters ws before → IsFound letters (ws ++ names_below region count) found)
    → Offers region expected t (option_map (λ near. near.word.now) found)
offers_found region expected t letters words count before found letters_are words_are count_is other was step =
    let near : Option (List ℕ) = option_map (λ near. near.word.now) found in
    let all : IsFound letters (words ++ names_below region count) found = step words was in
    inr (
      other,
      subst (λ ls. IsNearest ls (offered region expected) near) letters_are
          (subst (λ n. IsNearest letters (words_at expected ++ names_below region n) near) count_is
          (subst (λ ws. IsNearest letters (ws ++ names_below region count) near) words_are all.0)),
    )

-- what is offered for the token of an index
pub offers_at : (region : Region) (expected : Expectation) (tokens : List Held) (index : ℕ) (t : Held)
    (near : Option (List ℕ)) → index < length tokens → t ≡ get_or tokens index t
    → Offers region expected (token_of t) near → OffersAt region expected (tokens_of tokens) index near
offers_at region expected tokens index t near within is offers =
    let one : slice_get (tokens_of tokens) index ≡ Some (token_of t) = slice_get-map token_of tokens index
    ∙ ap (option_map token_of) (slice_get_read tokens (length tokens) index t refl within is) in
    rw one offers

-- nothing is behind the last
pub offers_none : (region : Region) (expected : Expectation) (tokens : List Held) (index : ℕ) (near : Option (List ℕ))
    → length tokens ≤ index → near ≡ None → OffersAt region expected (tokens_of tokens) index near
offers_none region expected tokens index near past none =
    let no : slice_get (tokens_of tokens) index ≡ None =
    slice_get-map token_of tokens index ∙ ap (option_map token_of) (slice_get_past tokens index past) in
    rw no none

-- ---- the names of programme types

pub one_name_more : (region : Region) (number : ℕ) (words : List (List ℕ))
    → (words ++ names_below region number) ++ the_name (name_of region number)
    ≡ words ++ names_below region (number + 1)
one_name_more region number words =
    append_assoc words (names_below region number) (the_name (name_of region number))
    ∙ ap (λ n. words ++ names_below region n) (let e : suc number ≡ number + 1 = omega arith in e)

-- ---- what is offered may stand

abbrev Stands : Region → Expectation → List ℕ → Type 0
Stands region expected word = MayStand region expected (Word word) ⊎ MayStand region expected (Quoted word)

one_stands : (region : Region) (number : ℕ) (name : Option (List ℕ)) → name_of region number ≡ name
    → AllByRecursion (Stands region what.ProgrammeType) (the_name name)
one_stands region number None is = tt
one_stands region number (Some name) is = (inr (inl (name, number, refl, (name, is, refl))), tt)

names_stand : (region : Region) (number : ℕ)
    → AllByRecursion (Stands region what.ProgrammeType) (names_below region number)
names_stand region zero = tt
names_stand region (suc number) = all_join (Stands region what.ProgrammeType) (names_below region number)
    (the_name (name_of region number)) (names_stand region number)
    (one_stands region number (name_of region number) refl)

placed : (region : Region) (h : Head) → acts_somewhere h ≡ true → Stands region what.WordForService (head_word h)
placed region h somewhere = inl (h, own_head h, somewhere)

placed_in_set : (region : Region) (h : Head) → acts_somewhere h ≡ true → Stands region what.WordInSet (head_word h)
placed_in_set region h somewhere = inl (inr (h, own_head h, somewhere))

first : (region : Region) (h : Head) → Stands region what.FirstWord (head_word h)
first region h = inl (inr (inr (h, own_head h)))

choices : (region : Region) (add same times : Bool) → AllByRecursion (Stands region (what.Choice add same times))
    (offered region (what.Choice add same times))
choices region true true true =
    (inl (inl (refl, refl)), (inl (inr (inl (refl, inl refl))), (inl (inr (inr (refl, refl))), (tt))))
choices region true true false =
    (inl (inl (refl, refl)), (inl (inr (inl (refl, inl refl))), (tt)))
choices region true false true =
    (inl (inl (refl, refl)), (inl (inr (inr (refl, refl))), (tt)))
choices region true false false = (inl (inl (refl, refl)), (tt))
choices region false true true =
    (inl (inr (inl (refl, inl refl))), (inl (inr (inr (refl, refl))), (tt)))
choices region false true false = (inl (inr (inl (refl, inl refl))), (tt))
choices region false false true = (inl (inr (inr (refl, refl))), (tt))
choices region false false false = tt

pub offered_may_stand : OfferedMayStand
offered_may_stand region what.FirstWord = (
  inl (inl refl),
  (
    inl (inr (inl refl)),
    (
      first region head.Pi,
      (
        first region head.Ps,
        (
          first region head.Rt,
          (
            first region head.Traffic,
            (
              first region head.Ta,
              (
                first region head.Tp,
                (
                  first region head.Music,
                  (
                    first region head.Speech,
                    (
                      first region head.Ms,
                      (
                        first region head.Pty,
                        (
                          first region head.Set,
                          (
                            first region head.Group,
                            (first region head.Ack, (first region head.Raw, (tt))),
                          ),
                        ),
                      ),
                    ),
                  ),
                ),
              ),
            ),
          ),
        ),
      ),
    ),
  ),
)
offered_may_stand region what.WordInSet = (
  inl (inl refl),
  (
    placed_in_set region head.Pi refl,
    (
      placed_in_set region head.Ps refl,
      (
        placed_in_set region head.Rt refl,
        (
          placed_in_set region head.Traffic refl,
          (
            placed_in_set region head.Ta refl,
            (
              placed_in_set region head.Tp refl,
              (
                placed_in_set region head.Music refl,
                (
                  placed_in_set region head.Speech refl,
                  (
                    placed_in_set region head.Ms refl,
                    (placed_in_set region head.Pty refl, (tt)),
                  ),
                ),
              ),
            ),
          ),
        ),
      ),
    ),
  ),
)
offered_may_stand region what.WordForService = (
  placed region head.Pi refl,
  (
    placed region head.Ps refl,
    (
      placed region head.Rt refl,
      (
        placed region head.Traffic refl,
        (
          placed region head.Ta refl,
          (
            placed region head.Tp refl,
            (
              placed region head.Music refl,
              (
                placed region head.Speech refl,
                (placed region head.Ms refl, (placed region head.Pty refl, (tt))),
              ),
            ),
          ),
        ),
      ),
    ),
  ),
)
offered_may_stand region what.DataSet =
    (inl (codes "all", 0xFF, refl, inl (refl, refl)), (inl (codes "others", 0xFE, refl, inr (inl (refl, refl))), (tt)))
offered_may_stand region what.Service = tt
offered_may_stand region what.TwoDigits = tt
offered_may_stand region what.FourDigits = tt
offered_may_stand region what.Name = tt
offered_may_stand region what.Text = tt
offered_may_stand region what.RadioText =
    (inl (inr (inl refl)), (inl (inr (inr refl)), (tt)))
offered_may_stand region what.Bits = (inl refl, tt)
offered_may_stand region what.Traffic = (
  inl (inl (codes "none", 0, refl, inl (refl, refl))),
  (
    inl (inl (codes "eon", 1, refl, inr (inl (refl, refl)))),
    (
      inl (inl (codes "programme", 2, refl, inr (inr (inl (refl, refl))))),
      (inl (inl (codes "announcement", 3, refl, inr (inr (inr (refl, refl))))), (inl (inr refl), (tt))),
    ),
  ),
)
offered_may_stand region what.Switch = (inl (false, refl), (inl (true, refl), tt))
offered_may_stand region what.ProgrammeType = all_join (Stands region what.ProgrammeType)
    (words_at what.ProgrammeType) (names_below region 32) (inl (inr (inr refl)), tt) (names_stand region 32)
offered_may_stand region (what.Choice add same times) = choices region add same times
offered_may_stand region what.Times = tt
offered_may_stand region what.GroupType = (inl (inr refl), tt)
offered_may_stand region what.FiveBits = tt
offered_may_stand region what.Added = (inl refl, tt)
offered_may_stand region what.AnotherByte = tt
offered_may_stand region what.End = tt
offered_may_stand region what.Semicolon = tt
offered_may_stand region what.ShortMessage = tt
