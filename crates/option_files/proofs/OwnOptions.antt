-- A word of an entry says something of its own option alone.
use Rattle.std.proofs.Common.{arith, ◌≡◌, ℕ, Bool, true, false, not, ◌&&◌, ◌==◌, cond, List, [], ◌∷◌, ◌++◌, refl, ap}
use Rattle.std.proofs.Common.{ap₂, sym, ◌∙◌, subst, length, Option, Some, None, option_map, append_assoc, append-nil}
use Rattle.std.specs.Prelude.{is_some, option_and_then, option_to_list}
use Rattle.std.specs.List.{All, list_all}
use Rattle.std.proofs.lemmas.Bool.{eqb-true, and_parts, false≢true}
use Rattle.std.proofs.lemmas.Grind.{common_steps}
use Rattle.std.proofs.lemmas.List.Elements.{All-append, All-cons, All-nil}
use Rattle.toml.specs.Data.{Data, string, integer, float, boolean, datetime, array, table, Members, no_members, member}
use Rattle.toml.specs.Parse.{parse_document}
use Rattle.std.specs.Fmt.{signed_decimal}
use Rattle.option_files.specs.Words.{Entry, Text, behind, flag, names, said, value_in, word_beside, words_beside}
use Rattle.option_files.specs.Entries.{Gives, both, entries_of, entry_of, is_kept, is_letter, is_name, valued, word_of}

-- what stands behind a name in a word: nothing, or a value behind an equals sign
abbrev ends : Option Text → Text
ends None = []
ends (Some value) = 61 ∷ value

-- a letter is no equals sign
unequal : (b : ℕ) → is_letter b ≡ true → (61 == b) ≡ false
unequal b e = grind (arith, common_steps)

unequal_to : (b : ℕ) → is_letter b ≡ true → (b == 61) ≡ false
unequal_to b e = grind (arith, common_steps)

nothing_there : is_some {T = Option Text} None ≡ true → ⊥
nothing_there e = cc

-- a name that says something of a word with another name's front is that name
only : (name key : Text) (end : Option Text) → list_all is_letter name ≡ true → list_all is_letter key ≡ true
    → is_some (option_and_then value_in (behind name (key ++ ends end))) ≡ true → name ≡ key
only [] [] end n k e = refl
only [] (c ∷ cs) end n k e =
    let other = unequal c (and_parts (is_letter c) (list_all is_letter cs) k).0 in
    absurd (nothing_there (rw other at e))
only (b ∷ bs) [] None n k e = absurd (nothing_there e)
only (b ∷ bs) [] (Some value) n k e =
    let other = unequal_to b (and_parts (is_letter b) (list_all is_letter bs) n).0 in
    absurd (nothing_there (rw other at e))
only (b ∷ bs) (c ∷ cs) end n k e =
    go (b == c) refl (only bs cs end (and_parts (is_letter b) (list_all is_letter bs) n).1
    (and_parts (is_letter c) (list_all is_letter cs) k).1) e
  where
    go : (t : Bool) → (b == c) ≡ t
        → (is_some (option_and_then value_in (behind bs (cs ++ ends end))) ≡ true → bs ≡ cs)
        → is_some (option_and_then value_in (cond t (behind bs (cs ++ ends end)) None)) ≡ true → b ∷ bs ≡ c ∷ cs
    go true is more e = ap₂ (λ x xs. x ∷ xs) (eqb-true b c is) (more e)
    go false is more e = absurd (nothing_there e)

-- what is not there is nothing
nothing : (o : Option (Option Text)) → (is_some o ≡ true → ⊥) → o ≡ None
nothing None h = refl
nothing (Some x) h = absurd (h refl)

-- a word of an option that the words do not name says nothing of one that they name
apart : (words : List Text) (name key : Text) (end : Option Text) (word : Text) → list_all is_letter name ≡ true
    → list_all is_letter key ≡ true → word ≡ flag key ++ ends end → names name words ≡ true → names key words ≡ false
    → said name word ≡ None
apart words name key end word n k is has none =
    nothing (said name word) (λ some.
    let own : name ≡ key = only name key end n k (subst (λ w. is_some (said name w) ≡ true) is some) in
    let same : names name words ≡ names key words = ap (λ x. names x words) own in
    false≢true (sym none ∙ sym same ∙ has))

-- the letters of a name
letters_of : (name : Text) → is_name name ≡ true → list_all is_letter name ≡ true
letters_of name e =
    (and_parts (list_all is_letter name) (not (length name == 0))
    (and_parts (not (is_kept name)) (list_all is_letter name && not (length name == 0)) e).1).0

-- what a word says nothing of
abbrev Silent : (name : Text) → List Text → Type 0
Silent name words = All (λ word. said name word ≡ None) words

one_silent : (words : List Text) (name key : Text) (o : Option Text) → list_all is_letter name ≡ true
    → names name words ≡ true → ((word : Text) → o ≡ Some word → names key words ≡ false → said name word ≡ None)
    → Silent name (word_beside words (key, o))
one_silent words name key o n has h = go (names key words) refl o refl
  where
    go : (t : Bool) → names key words ≡ t → (p : Option Text) → o ≡ p
        → Silent name (cond t [] (option_to_list p))
    go true is p same = All-nil (λ word. said name word ≡ None)
    go false is None same = All-nil (λ word. said name word ≡ None)
    go false is (Some word) same =
        All-cons (λ word. said name word ≡ None) word [] (h word same is) (All-nil (λ word. said name word ≡ None))

-- the word that a value gives
by_data : (words : List Text) (name key : Text) (d : Data) (o : Option Text) (word : Text)
    → list_all is_letter name ≡ true → list_all is_letter key ≡ true → names name words ≡ true
    → names key words ≡ false → word_of key d ≡ Some o → o ≡ Some word → said name word ≡ None
by_data words name key (string text) o word n k has none is some =
    let word_is : word ≡ valued key text = cc in
    apart words name key (Some text) word n k
    (word_is ∙ ap (λ t. 45 ∷ 45 ∷ t) (append_assoc key (61 ∷ []) text)) has none
by_data words name key (integer number) o word n k has none is some =
    let word_is : word ≡ valued key (signed_decimal number) = cc in
    apart words name key (Some (signed_decimal number)) word n k
    (word_is ∙ ap (λ t. 45 ∷ 45 ∷ t) (append_assoc key (61 ∷ []) (signed_decimal number))) has none
by_data words name key (boolean true) o word n k has none is some =
    let word_is : word ≡ flag key = cc in
    apart words name key None word n k (word_is ∙ sym (append-nil (flag key))) has none
by_data words name key (boolean false) o word n k has none is some = cc
by_data words name key (float x) o word n k has none is some = cc
by_data words name key (datetime x) o word n k has none is some = cc
by_data words name key (array x) o word n k has none is some = cc
by_data words name key (table x) o word n k has none is some = cc

-- the words of an entry that is one
entry_silent : (words : List Text) (name key : Text) (d : Data) (e : Entry) → list_all is_letter name ≡ true
    → names name words ≡ true → entry_of key d ≡ Some e → Silent name (word_beside words e)
entry_silent words name key d e n has is = go (is_name key) refl (word_of key d) refl is
  where
    go : (t : Bool) → is_name key ≡ t → (o : Option (Option Text)) → word_of key d ≡ o
        → cond t (option_map (λ word. (key, word)) o) None ≡ Some e → Silent name (word_beside words e)
    go false unnamed o given is = cc
    go true named None given is = cc
    go true named (Some word) given is =
        let same : (key, word) ≡ e = cc in
        subst (λ x. Silent name (word_beside words x)) same
        (one_silent words name key word n has (λ w some none. by_data words name key d word w n (letters_of key named)
        has none given some))

-- the words of the entries of members
members_silent : (words : List Text) (name : Text) (ms : Members) (es : List Entry) → list_all is_letter name ≡ true
    → names name words ≡ true → entries_of ms ≡ Some es → Silent name (words_beside words es)
members_silent words name no_members [] n has is = All-nil (λ word. said name word ≡ None)
members_silent words name no_members (e ∷ es) n has is = cc
members_silent words name (member key d ms) es n has is =
    go (entry_of key d) (entries_of ms) refl refl (λ rest same. members_silent words name ms rest n has same) is
  where
    go : (a : Option Entry) (o : Option (List Entry)) → entry_of key d ≡ a → entries_of ms ≡ o
        → ((rest : List Entry) → entries_of ms ≡ Some rest → Silent name (words_beside words rest))
        → both a o ≡ Some es → Silent name (words_beside words es)
    go None o one more below whole = cc
    go (Some a) None one more below whole = cc
    go (Some a) (Some rest) one more below whole =
        let parts : a ∷ rest ≡ es = cc in
        subst (λ x. Silent name (words_beside words x)) parts
        (All-append (λ word. said name word ≡ None) (word_beside words a) (words_beside words rest)
        (entry_silent words name key d a n has one) (below rest more))

-- the words of the entries of a text
pub text_silent : (text : Text) (entries : List Entry) (words : List Text) (name : Text) → Gives text entries
    → is_name name ≡ true → names name words ≡ true → Silent name (words_beside words entries)
text_silent text entries words name gives named has = go (parse_document text) refl gives
  where
    go : (o : Option Members) → parse_document text ≡ o → option_and_then entries_of o ≡ Some entries
        → Silent name (words_beside words entries)
    go None is gives = cc
    go (Some ms) is gives = members_silent words name ms entries (letters_of name named) has gives
