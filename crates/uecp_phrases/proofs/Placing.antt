-- Where tokens stop to be a phrase, at where it acts and at its first word.
use Rattle.std.proofs.Common.{◌≡◌, ℕ, ◌≤◌, ◌||◌, Bool, true, false, is_some, List, [], ◌∷◌, ◌++◌, length, codes}
use Rattle.std.proofs.Common.{Option, Some, None, refl, sym, ◌∙◌, ap, subst, inl, inr}
use Rattle.std.proofs.lemmas.Bool.{false≢true}
use Rattle.uecp_elements.specs.Grammar.{Pi, Ps, TaTp, Ms, Pty, Rt, spelling}
use Rattle.uecp_text.specs.Words.{IsByte}
use Rattle.rds_text.specs.declared.programme_type.Region.{Region}
use Rattle.phrase_tokens.specs.Tokens.{Token, Word}
use Rattle.uecp_phrases.specs.declared.head.Head.{Head}
use Rattle.uecp_phrases.specs.declared.head.Head.TheVariants as head
use Rattle.uecp_phrases.specs.declared.expectation.Expectation.{Expectation}
use Rattle.uecp_phrases.specs.declared.expectation.Expectation.TheVariants as what
use Rattle.uecp_phrases.specs.Phrases.{IsSet, set_said, service_said, IsInSet, IsForService, head_word, Tells, IsPhrase}
use Rattle.uecp_phrases.specs.Phrases.{IsHead, announcing, giving}
use Rattle.uecp_phrases.specs.Reading.{IsBefore, BeginWith, or_zero}
use Rattle.uecp_phrases.specs.Expecting.{acts_somewhere, MayStand, IsNext, IsStop, IsRead, IsLong, IsUnread}
use Rattle.uecp_phrases.specs.Stops.{Told, IsNotFirst, IsStopBefore, IsNoHead, word_wanted}
use Rattle.uecp_phrases.proofs.Phrasing.{behind_set, no_set_behind, no_in, no_for, one_head, own_head, phrase_read}
use Rattle.std.proofs.Common.{◌<◌, arith}
use Rattle.uecp_phrases.proofs.OneMeaning.{one_meaning}
use Rattle.uecp_phrases.proofs.Cutting.{empty_no_phrase}
use Rattle.uecp_phrases.proofs.Slots.{zero_byte}
use Rattle.uecp_phrases.proofs.FirstWanted.{some_told}
use Rattle.uecp_phrases.proofs.Stopping.{Same, same_stop, stop_behind, stuck_stop, stops_none}
use Rattle.uecp_phrases.proofs.Telling.{unplaced}

-- ---- What is told, wherever it acts.

pub retold : (region : Region) (h : Head) (placed : Bool) (dsn psn : ℕ) (l : List Token) (bytes : List ℕ)
    → Tells region h placed dsn psn l bytes → Told region h l
retold region head.Pi placed dsn psn l bytes (n, is, _) = (spelling (Pi 0 0 n), (n, is, refl))
retold region head.Ps placed dsn psn l bytes (n, is, _) = (spelling (Ps 0 0 n), (n, is, refl))
retold region head.Rt placed dsn psn l bytes (n, is, _) = (spelling (Rt 0 0 n), (n, is, refl))
retold region head.Traffic placed dsn psn l bytes (n, is, _) = (spelling (TaTp 0 0 n), (n, is, refl))
retold region head.Ta placed dsn psn l bytes (on, is, _) = (spelling (TaTp 0 0 (announcing on)), (on, is, refl))
retold region head.Tp placed dsn psn l bytes (on, is, _) = (spelling (TaTp 0 0 (giving on)), (on, is, refl))
retold region head.Music placed dsn psn l bytes (is, _) = (spelling (Ms 0 0 1), (is, refl))
retold region head.Speech placed dsn psn l bytes (is, _) = (spelling (Ms 0 0 0), (is, refl))
retold region head.Ms placed dsn psn l bytes (n, is, _) = (spelling (Ms 0 0 n), (n, is, refl))
retold region head.Pty placed dsn psn l bytes (n, is, _) = (spelling (Pty 0 0 n), (n, is, refl))
retold region head.Set placed dsn psn l bytes (_, told) = (bytes, (refl, told))
retold region head.Group placed dsn psn l bytes (_, told) = (bytes, (refl, told))
retold region head.Ack placed dsn psn l bytes (_, told) = (bytes, (refl, told))
retold region head.Raw placed dsn psn l bytes (_, are, some) = (bytes, (refl, are, some))

-- No place is said of what acts nowhere.
pub acts : (region : Region) (h : Head) (placed : Bool) (dsn psn : ℕ) (l : List Token) (bytes : List ℕ)
    → Tells region h placed dsn psn l bytes → placed ≡ true → acts_somewhere h ≡ true
acts region head.Pi placed dsn psn l bytes told is = refl
acts region head.Ps placed dsn psn l bytes told is = refl
acts region head.Rt placed dsn psn l bytes told is = refl
acts region head.Traffic placed dsn psn l bytes told is = refl
acts region head.Ta placed dsn psn l bytes told is = refl
acts region head.Tp placed dsn psn l bytes told is = refl
acts region head.Music placed dsn psn l bytes told is = refl
acts region head.Speech placed dsn psn l bytes told is = refl
acts region head.Ms placed dsn psn l bytes told is = refl
acts region head.Pty placed dsn psn l bytes told is = refl
acts region head.Set placed dsn psn l bytes (none, _) is = absurd (false≢true (sym none ∙ is))
acts region head.Group placed dsn psn l bytes (none, _) is = absurd (false≢true (sym none ∙ is))
acts region head.Ack placed dsn psn l bytes (none, _) is = absurd (false≢true (sym none ∙ is))
acts region head.Raw placed dsn psn l bytes (none, _, _) is = absurd (false≢true (sym none ∙ is))

told_there : (region : Region) (h : Head) (placed : Bool) (dsn psn : ℕ) (l : List Token)
    → (placed ≡ true → acts_somewhere h ≡ true) → Told region h l
    → (bytes : List ℕ) × Tells region h placed dsn psn l bytes
told_there region head.Pi placed dsn psn l may (bytes, (n, is, _)) = (spelling (Pi dsn psn n), (n, is, refl))
told_there region head.Ps placed dsn psn l may (bytes, (n, is, _)) = (spelling (Ps dsn psn n), (n, is, refl))
told_there region head.Rt placed dsn psn l may (bytes, (n, is, _)) = (spelling (Rt dsn psn n), (n, is, refl))
told_there region head.Traffic placed dsn psn l may (bytes, (n, is, _)) = (spelling (TaTp dsn psn n), (n, is, refl))
told_there region head.Ta placed dsn psn l may (bytes, (on, is, _)) =
    (spelling (TaTp dsn psn (announcing on)), (on, is, refl))
told_there region head.Tp placed dsn psn l may (bytes, (on, is, _)) =
    (spelling (TaTp dsn psn (giving on)), (on, is, refl))
told_there region head.Music placed dsn psn l may (bytes, (is, _)) = (spelling (Ms dsn psn 1), (is, refl))
told_there region head.Speech placed dsn psn l may (bytes, (is, _)) = (spelling (Ms dsn psn 0), (is, refl))
told_there region head.Ms placed dsn psn l may (bytes, (n, is, _)) = (spelling (Ms dsn psn n), (n, is, refl))
told_there region head.Pty placed dsn psn l may (bytes, (n, is, _)) = (spelling (Pty dsn psn n), (n, is, refl))
told_there region head.Set placed dsn psn l may (bytes, (_, told)) = (bytes, (unplaced placed may, told))
told_there region head.Group placed dsn psn l may (bytes, (_, told)) = (bytes, (unplaced placed may, told))
told_there region head.Ack placed dsn psn l may (bytes, (_, told)) = (bytes, (unplaced placed may, told))
told_there region head.Raw placed dsn psn l may (bytes, (_, are, some)) = (bytes, (unplaced placed may, are, some))

-- ---- What stands behind where a phrase acts.

-- Behind the set, if one is said: a service, maybe, a first word and what it tells.
record IsInPlace (region : Region) (in_set : Bool) (l : List Token) : Type 0 where
  service : Option (List ℕ)
  token : Token
  first : Head
  rest : List Token
  psn : ℕ
  whole : l ≡ service_said service ++ (token ∷ rest)
  named : IsHead token first
  for_service : IsForService service psn
  may : (in_set || is_some service) ≡ true → acts_somewhere first ≡ true
  told : Told region first rest

-- Behind a set.
in_same : (region : Region) (w : List ℕ) (dsn : ℕ) → IsSet w dsn
    → Same (λ l. IsRead region (Word (codes "in") ∷ Word w ∷ l)) (IsInPlace region true)
in_same region w dsn named = record { to = λ l r. to l r.0 r.1 r.1.set refl; from = from }
  where
    to : (l : List Token) (bytes : List ℕ) (p : IsPhrase region (Word (codes "in") ∷ Word w ∷ l) bytes)
        (set : Option (List ℕ)) → p.set ≡ set → IsInPlace region true l
    to l bytes p None is =
        let whole = p.whole ∙ ap (λ s. set_said s ++ behind_set p.service p.first p.rest) is in
        absurd (no_set_behind p.service p.first p.head p.rest p.named (Word w ∷ l, sym whole))
    to l bytes p (Some v) is =
        let whole : Word (codes "in") ∷ Word w ∷ l ≡ Word (codes "in") ∷ Word v ∷ behind_set p.service p.first p.rest =
        p.whole ∙ ap (λ s. set_said s ++ behind_set p.service p.first p.rest) is in
        let placed : (is_some p.set || is_some p.service) ≡ true =
        ap (λ s. is_some s || is_some p.service) is in
        record {
          service = p.service;
          token = p.first;
          first = p.head;
          rest = p.rest;
          psn = p.psn;
          whole = cc whole;
          named = p.named;
          for_service = p.for_service;
          may = λ _. acts region p.head (is_some p.set || is_some p.service) p.dsn p.psn p.rest bytes p.told placed;
          told = retold region p.head (is_some p.set || is_some p.service) p.dsn p.psn p.rest bytes p.told;
        }

    from : (l : List Token) → IsInPlace region true l → IsRead region (Word (codes "in") ∷ Word w ∷ l)
    from l r =
        let told = told_there region r.first true dsn r.psn r.rest r.may r.told in (
          told.0,
          record {
            set = Some w;
            service = r.service;
            first = r.token;
            head = r.first;
            rest = r.rest;
            dsn = dsn;
            psn = r.psn;
            whole = ap (λ x. Word (codes "in") ∷ Word w ∷ x) r.whole;
            named = r.named;
            in_set = named;
            for_service = r.for_service;
            told = told.1;
          },
        )

-- Without one.
out_same : (region : Region) (t : Token) → (t ≡ Word (codes "in") → ⊥)
    → Same (λ l. IsRead region (t ∷ l)) (λ l. IsInPlace region false (t ∷ l))
out_same region t other = record { to = λ l r. to l r.0 r.1 r.1.set refl; from = from }
  where
    to : (l : List Token) (bytes : List ℕ) (p : IsPhrase region (t ∷ l) bytes) (set : Option (List ℕ))
        → p.set ≡ set → IsInPlace region false (t ∷ l)
    to l bytes p None is = record {
      service = p.service;
      token = p.first;
      first = p.head;
      rest = p.rest;
      psn = p.psn;
      whole = p.whole ∙ ap (λ s. set_said s ++ behind_set p.service p.first p.rest) is;
      named = p.named;
      for_service = p.for_service;
      may = λ yes. acts region p.head (is_some p.set || is_some p.service) p.dsn p.psn p.rest bytes p.told
          (ap (λ s. is_some s || is_some p.service) is ∙ yes);
      told = retold region p.head (is_some p.set || is_some p.service) p.dsn p.psn p.rest bytes p.told;
    }
    to l bytes p (Some v) is =
        let whole : t ∷ l ≡ Word (codes "in") ∷ Word v ∷ behind_set p.service p.first p.rest =
        p.whole ∙ ap (λ s. set_said s ++ behind_set p.service p.first p.rest) is in
        let same : t ≡ Word (codes "in") = cc in absurd (other same)

    from : (l : List Token) → IsInPlace region false (t ∷ l) → IsRead region (t ∷ l)
    from l r =
        let told = told_there region r.first (is_some r.service) 0 r.psn r.rest r.may r.told in (
          told.0,
          record {
            set = None;
            service = r.service;
            first = r.token;
            head = r.first;
            rest = r.rest;
            dsn = 0;
            psn = r.psn;
            whole = r.whole;
            named = r.named;
            in_set = refl;
            for_service = r.for_service;
            told = told.1;
          },
        )

or_false : (b : Bool) → (b || false) ≡ true → b ≡ true
or_false true is = refl
or_false false is = is

or_true : (b : Bool) → (b || true) ≡ true
or_true true = refl
or_true false = refl

-- What stands behind the first word, behind the set or alone.
place_head : (region : Region) (b : Bool) (t : Token) (h : Head) → IsHead t h → (b ≡ true → acts_somewhere h ≡ true)
    → Same (λ l. IsInPlace region b (t ∷ l)) (Told region h)
place_head region b t h named may = record { to = λ l r. to l r r.service refl; from = from }
  where
    to : (l : List Token) (r : IsInPlace region b (t ∷ l)) (service : Option (List ℕ)) → r.service ≡ service
        → Told region h l
    to l r None is =
        let whole : t ∷ l ≡ r.token ∷ r.rest = r.whole ∙ ap (λ s. service_said s ++ (r.token ∷ r.rest)) is in
        let firsts : r.token ≡ t = cc whole in
        let rests : r.rest ≡ l = cc whole in
        let heads : r.first ≡ h = one_head t r.first h (subst (λ x. IsHead x r.first) firsts r.named) named in
        subst (λ x. Told region h x) rests (subst (λ k. Told region k r.rest) heads r.told)
    to l r (Some s) is =
        let whole : t ∷ l ≡ Word (codes "for") ∷ Word s ∷ r.token ∷ r.rest =
        r.whole ∙ ap (λ x. service_said x ++ (r.token ∷ r.rest)) is in
        let word : t ≡ Word (codes "for") = cc whole in absurd (no_for t h named word)

    from : (l : List Token) → Told region h l → IsInPlace region b (t ∷ l)
    from l told = record {
      service = None;
      token = t;
      first = h;
      rest = l;
      psn = 0;
      whole = refl;
      named = named;
      for_service = refl;
      may = λ yes. may (or_false b yes);
      told = told;
    }

-- Behind a service.
place_service : (region : Region) (b : Bool) (t : Token) (h : Head) (w : List ℕ) (psn : ℕ) → IsHead t h → IsByte w psn
    → acts_somewhere h ≡ true
    → Same (λ l. IsInPlace region b (Word (codes "for") ∷ Word w ∷ t ∷ l)) (Told region h)
place_service region b t h w psn named byte may = record { to = λ l r. to l r r.service refl; from = from }
  where
    to : (l : List Token) (r : IsInPlace region b (Word (codes "for") ∷ Word w ∷ t ∷ l))
        (service : Option (List ℕ)) → r.service ≡ service → Told region h l
    to l r None is =
        let whole : Word (codes "for") ∷ Word w ∷ t ∷ l ≡ r.token ∷ r.rest =
        r.whole ∙ ap (λ s. service_said s ++ (r.token ∷ r.rest)) is in
        let word : r.token ≡ Word (codes "for") = cc whole in absurd (no_for r.token r.first r.named word)
    to l r (Some s) is =
        let whole : Word (codes "for") ∷ Word w ∷ t ∷ l ≡ Word (codes "for") ∷ Word s ∷ r.token ∷ r.rest =
        r.whole ∙ ap (λ x. service_said x ++ (r.token ∷ r.rest)) is in
        let firsts : r.token ≡ t = cc whole in
        let rests : r.rest ≡ l = cc whole in
        let heads : r.first ≡ h = one_head t r.first h (subst (λ x. IsHead x r.first) firsts r.named) named in
        subst (λ x. Told region h x) rests (subst (λ k. Told region k r.rest) heads r.told)

    from : (l : List Token) → Told region h l → IsInPlace region b (Word (codes "for") ∷ Word w ∷ t ∷ l)
    from l told = record {
      service = Some w;
      token = t;
      first = h;
      rest = l;
      psn = psn;
      whole = refl;
      named = named;
      for_service = byte;
      may = λ yes. may;
      told = told;
    }

-- ---- What may stand there.

next_service : (region : Region) (b : Bool)
    → IsNext region (λ l. IsInPlace region b (Word (codes "for") ∷ l)) [] what.Service
next_service region b = record {
  only = λ t more r. only t more r r.service refl;
  may = may;
  ends = λ r. ends r r.service refl;
  may_end = λ m. absurd m;
}
  where
    only : (t : Token) (more : List Token) (r : IsInPlace region b (Word (codes "for") ∷ t ∷ more))
        (service : Option (List ℕ)) → r.service ≡ service → MayStand region what.Service t
    only t more r None is =
        let whole : Word (codes "for") ∷ t ∷ more ≡ r.token ∷ r.rest =
        r.whole ∙ ap (λ s. service_said s ++ (r.token ∷ r.rest)) is in
        let word : r.token ≡ Word (codes "for") = cc whole in absurd (no_for r.token r.first r.named word)
    only t more r (Some s) is =
        let whole : Word (codes "for") ∷ t ∷ more ≡ Word (codes "for") ∷ Word s ∷ r.token ∷ r.rest =
        r.whole ∙ ap (λ x. service_said x ++ (r.token ∷ r.rest)) is in
        (s, r.psn, cc whole, subst (λ x. IsForService x r.psn) is r.for_service)

    may : (t : Token) → MayStand region what.Service t
        → (more : List Token) × IsInPlace region b (Word (codes "for") ∷ t ∷ more)
    may t (w, psn, is, byte) =
        let some = some_told region head.Music in (
          Word (head_word head.Music) ∷ some.0,
          record {
            service = Some w;
            token = Word (head_word head.Music);
            first = head.Music;
            rest = some.0;
            psn = psn;
            whole = ap (λ x. Word (codes "for") ∷ x ∷ Word (head_word head.Music) ∷ some.0) is;
            named = own_head head.Music;
            for_service = byte;
            may = λ yes. refl;
            told = some.1;
          },
        )

    ends : (r : IsInPlace region b (Word (codes "for") ∷ [])) (service : Option (List ℕ)) → r.service ≡ service → ⊥
    ends r None is =
        let whole : Word (codes "for") ∷ [] ≡ r.token ∷ r.rest =
        r.whole ∙ ap (λ s. service_said s ++ (r.token ∷ r.rest)) is in
        let word : r.token ≡ Word (codes "for") = cc whole in no_for r.token r.first r.named word
    ends r (Some s) is =
        let whole : Word (codes "for") ∷ [] ≡ Word (codes "for") ∷ Word s ∷ r.token ∷ r.rest =
        r.whole ∙ ap (λ x. service_said x ++ (r.token ∷ r.rest)) is in
        cc whole

next_for : (region : Region) (b : Bool) (w : List ℕ) (psn : ℕ) → IsByte w psn
    → IsNext region (λ l. IsInPlace region b (Word (codes "for") ∷ Word w ∷ l)) [] what.WordForService
next_for region b w psn byte = record {
  only = λ t more r. only t more r r.service refl;
  may = may;
  ends = λ r. ends r r.service refl;
  may_end = λ m. absurd m;
}
  where
    only : (t : Token) (more : List Token) (r : IsInPlace region b (Word (codes "for") ∷ Word w ∷ t ∷ more))
        (service : Option (List ℕ)) → r.service ≡ service → MayStand region what.WordForService t
    only t more r None is =
        let whole : Word (codes "for") ∷ Word w ∷ t ∷ more ≡ r.token ∷ r.rest =
        r.whole ∙ ap (λ s. service_said s ++ (r.token ∷ r.rest)) is in
        let word : r.token ≡ Word (codes "for") = cc whole in absurd (no_for r.token r.first r.named word)
    only t more r (Some s) is =
        let whole : Word (codes "for") ∷ Word w ∷ t ∷ more
        ≡ Word (codes "for") ∷ Word s ∷ r.token ∷ r.rest =
        r.whole ∙ ap (λ x. service_said x ++ (r.token ∷ r.rest)) is in
        let firsts : r.token ≡ t = cc whole in
        (r.first, subst (λ x. IsHead x r.first) firsts r.named, r.may (ap (λ x. b || is_some x) is ∙ or_true b))

    may : (t : Token) → MayStand region what.WordForService t
        → (more : List Token) × IsInPlace region b (Word (codes "for") ∷ Word w ∷ t ∷ more)
    may t (h, is, somewhere) =
        let some = some_told region h in (
          some.0,
          record {
            service = Some w;
            token = t;
            first = h;
            rest = some.0;
            psn = psn;
            whole = refl;
            named = is;
            for_service = byte;
            may = λ yes. somewhere;
            told = some.1;
          },
        )

    ends : (r : IsInPlace region b (Word (codes "for") ∷ Word w ∷ [])) (service : Option (List ℕ))
        → r.service ≡ service → ⊥
    ends r None is =
        let whole : Word (codes "for") ∷ Word w ∷ [] ≡ r.token ∷ r.rest =
        r.whole ∙ ap (λ s. service_said s ++ (r.token ∷ r.rest)) is in
        let word : r.token ≡ Word (codes "for") = cc whole in no_for r.token r.first r.named word
    ends r (Some s) is =
        let whole : Word (codes "for") ∷ Word w ∷ [] ≡ Word (codes "for") ∷ Word s ∷ r.token ∷ r.rest =
        r.whole ∙ ap (λ x. service_said x ++ (r.token ∷ r.rest)) is in
        cc whole

-- A phrase for service 00.
for_zero : (region : Region) (b : Bool)
    → (more : List Token) × IsInPlace region b (Word (codes "for") ∷ more)
for_zero region b =
    let t = (next_service region b).may (Word (codes "00")) (codes "00", 0, refl, zero_byte) in
    (Word (codes "00") ∷ t.0, t.1)

next_in : (region : Region) → IsNext region (IsInPlace region true) [] what.WordInSet
next_in region = record {
  only = λ t more r. only t more r r.service refl;
  may = may;
  ends = λ r. ends r r.service refl;
  may_end = λ m. absurd m;
}
  where
    only : (t : Token) (more : List Token) (r : IsInPlace region true (t ∷ more)) (service : Option (List ℕ))
        → r.service ≡ service → MayStand region what.WordInSet t
    only t more r None is =
        let whole : t ∷ more ≡ r.token ∷ r.rest =
        r.whole ∙ ap (λ s. service_said s ++ (r.token ∷ r.rest)) is in
        let firsts : r.token ≡ t = cc whole in
        inr (r.first, subst (λ x. IsHead x r.first) firsts r.named, r.may refl)
    only t more r (Some s) is =
        let whole : t ∷ more ≡ Word (codes "for") ∷ Word s ∷ r.token ∷ r.rest =
        r.whole ∙ ap (λ x. service_said x ++ (r.token ∷ r.rest)) is in
        inl (cc whole)

    may : (t : Token) → MayStand region what.WordInSet t → (more : List Token) × IsInPlace region true (t ∷ more)
    may t (inl is) =
        let more = for_zero region true in
        (more.0, subst (λ x. IsInPlace region true (x ∷ more.0)) (sym is) more.1)
    may t (inr (h, is, somewhere)) =
        let some = some_told region h in
        (some.0, (place_head region true t h is (λ yes. somewhere)).from some.0 some.1)

    ends : (r : IsInPlace region true []) (service : Option (List ℕ)) → r.service ≡ service → ⊥
    ends r None is =
        let whole : [] ≡ r.token ∷ r.rest =
        r.whole ∙ ap (λ s. service_said s ++ (r.token ∷ r.rest)) is in
        cc whole
    ends r (Some s) is =
        let whole : [] ≡ Word (codes "for") ∷ Word s ∷ r.token ∷ r.rest =
        r.whole ∙ ap (λ x. service_said x ++ (r.token ∷ r.rest)) is in
        cc whole

-- A phrase in all sets.
in_set_more : (region : Region) (w : List ℕ) (dsn : ℕ) → IsSet w dsn
    → (more : List Token) × IsRead region (Word (codes "in") ∷ Word w ∷ more)
in_set_more region w dsn named =
    let some = some_told region head.Music in
    let more = Word (head_word head.Music) ∷ some.0 in (
      more,
      (in_same region w dsn named).from more
          ((place_head region true (Word (head_word head.Music)) head.Music (own_head head.Music) (λ yes. refl)).from
          some.0 some.1),
    )

next_set : (region : Region) → IsNext region (λ l. IsRead region (Word (codes "in") ∷ l)) [] what.DataSet
next_set region = record {
  only = λ t more r. only t more r.0 r.1 r.1.set refl;
  may = may;
  ends = λ r. ends r.0 r.1 r.1.set refl;
  may_end = λ m. absurd m;
}
  where
    only : (t : Token) (more : List Token) (bytes : List ℕ)
        (p : IsPhrase region (Word (codes "in") ∷ t ∷ more) bytes) (set : Option (List ℕ)) → p.set ≡ set
        → MayStand region what.DataSet t
    only t more bytes p None is =
        let whole = p.whole ∙ ap (λ s. set_said s ++ behind_set p.service p.first p.rest) is in
        absurd (no_set_behind p.service p.first p.head p.rest p.named (t ∷ more, sym whole))
    only t more bytes p (Some v) is =
        let whole : Word (codes "in") ∷ t ∷ more ≡ Word (codes "in") ∷ Word v ∷ behind_set p.service p.first p.rest =
        p.whole ∙ ap (λ s. set_said s ++ behind_set p.service p.first p.rest) is in
        (v, p.dsn, cc whole, subst (λ x. IsInSet x p.dsn) is p.in_set)

    may : (t : Token) → MayStand region what.DataSet t
        → (more : List Token) × IsRead region (Word (codes "in") ∷ t ∷ more)
    may t (w, dsn, is, named) =
        let more = in_set_more region w dsn named in
        (more.0, subst (λ x. IsRead region (Word (codes "in") ∷ x ∷ more.0)) (sym is) more.1)

    ends : (bytes : List ℕ) (p : IsPhrase region (Word (codes "in") ∷ []) bytes) (set : Option (List ℕ))
        → p.set ≡ set → ⊥
    ends bytes p None is =
        let whole = p.whole ∙ ap (λ s. set_said s ++ behind_set p.service p.first p.rest) is in
        no_set_behind p.service p.first p.head p.rest p.named ([], sym whole)
    ends bytes p (Some v) is =
        let whole : Word (codes "in") ∷ [] ≡ Word (codes "in") ∷ Word v ∷ behind_set p.service p.first p.rest =
        p.whole ∙ ap (λ s. set_said s ++ behind_set p.service p.first p.rest) is in
        cc whole

next_first : (region : Region) → IsNext region (IsRead region) [] what.FirstWord
next_first region = record {
  only = λ t more r. only t more r.0 r.1 r.1.set r.1.service refl refl;
  may = may;
  ends = λ r. absurd (empty_no_phrase region r.0 r.1);
  may_end = λ m. absurd m;
}
  where
    only : (t : Token) (more : List Token) (bytes : List ℕ) (p : IsPhrase region (t ∷ more) bytes)
        (set service : Option (List ℕ)) → p.set ≡ set → p.service ≡ service → MayStand region what.FirstWord t
    only t more bytes p (Some v) service is _ =
        let whole : t ∷ more ≡ Word (codes "in") ∷ Word v ∷ behind_set p.service p.first p.rest =
        p.whole ∙ ap (λ s. set_said s ++ behind_set p.service p.first p.rest) is in
        inl (cc whole)
    only t more bytes p None (Some s) is is_for =
        let whole : t ∷ more ≡ Word (codes "for") ∷ Word s ∷ p.first ∷ p.rest =
        p.whole ∙ ap (λ x. set_said x ++ behind_set p.service p.first p.rest) is
        ∙ ap (λ x. behind_set x p.first p.rest) is_for in
        inr (inl (cc whole))
    only t more bytes p None None is is_for =
        let whole : t ∷ more ≡ p.first ∷ p.rest =
        p.whole ∙ ap (λ x. set_said x ++ behind_set p.service p.first p.rest) is
        ∙ ap (λ x. behind_set x p.first p.rest) is_for in
        let firsts : p.first ≡ t = cc whole in
        inr (inr (p.head, subst (λ x. IsHead x p.head) firsts p.named))

    may : (t : Token) → MayStand region what.FirstWord t → (more : List Token) × IsRead region (t ∷ more)
    may t (inl is) =
        let more = in_set_more region (codes "all") 0xFF (inl (refl, refl)) in (
          Word (codes "all") ∷ more.0,
          subst (λ x. IsRead region (x ∷ Word (codes "all") ∷ more.0)) (sym is) more.1,
        )
    may t (inr (inl is)) =
        let more = for_zero region false in
        let other : Word (codes "for") ≡ Word (codes "in") → ⊥ = λ e. cc e in (
          more.0,
          subst (λ x. IsRead region (x ∷ more.0)) (sym is)
              ((out_same region (Word (codes "for")) other).from more.0 more.1),
        )
    may t (inr (inr (h, is))) =
        let some = some_told region h in
        let nowhere : false ≡ true → acts_somewhere h ≡ true = λ e. absurd (false≢true e) in (
          some.0,
          (out_same region t (no_in t h is)).from some.0
              ((place_head region false t h is nowhere).from some.0 some.1),
        )

-- ---- A phrase stops where a part of it does.

at_more : (P Q : List Token → Type 0) (t : Token) → Same P Q → Same (λ l. P (t ∷ l)) (λ l. Q (t ∷ l))
at_more P Q t same = record { to = λ l p. same.to (t ∷ l) p; from = λ l q. same.from (t ∷ l) q }

lift : (region : Region) (tokens behind rest : List Token) (set : Option ℕ) (t : Token) (w : Expectation) (left : ℕ)
    → IsBefore (codes "in") IsSet tokens set behind → behind ≡ t ∷ rest
    → IsStop region (λ l. IsInPlace region (is_some set) (t ∷ l)) rest w left
    → IsStop region (IsRead region) tokens w left
lift region tokens behind rest None t w left (is, none) behind_is stop =
    let whole : tokens ≡ t ∷ rest = sym is ∙ behind_is in
    stop_behind region (IsRead region) (t ∷ []) tokens rest w left whole
    (same_stop region (λ l. IsRead region (t ∷ l)) (λ l. IsInPlace region false (t ∷ l)) rest w left
    (out_same region t (λ same. none (rest, whole ∙ ap (λ x. x ∷ rest) same))) stop)
lift region tokens behind rest (Some n) t w left (name, is, named) behind_is stop =
    stop_behind region (IsRead region) (Word (codes "in") ∷ Word name ∷ t ∷ []) tokens rest w left
    (is ∙ ap (λ l. Word (codes "in") ∷ Word name ∷ l) behind_is)
    (same_stop region (λ l. IsRead region (Word (codes "in") ∷ Word name ∷ t ∷ l))
    (λ l. IsInPlace region true (t ∷ l)) rest w left
    (at_more (λ l. IsRead region (Word (codes "in") ∷ Word name ∷ l)) (IsInPlace region true) t
    (in_same region name n named)) stop)

pub set_stop : (region : Region) (tokens : List Token) (w : Expectation) (left : ℕ)
    → IsStopBefore (codes "in") what.DataSet tokens w left → IsStop region (IsRead region) tokens w left
set_stop region tokens w left s =
    stop_behind region (IsRead region) (Word (codes "in") ∷ []) tokens s.rest w left s.whole
    (stuck_stop region (λ l. IsRead region (Word (codes "in") ∷ l)) what.DataSet s.rest w left (λ m. m)
    (next_set region) (s.stuck region))

pub service_stop : (region : Region) (tokens behind : List Token) (set : Option ℕ) (w : Expectation) (left : ℕ)
    → IsBefore (codes "in") IsSet tokens set behind → IsStopBefore (codes "for") what.Service behind w left
    → IsStop region (IsRead region) tokens w left
service_stop region tokens behind set w left before s =
    lift region tokens behind s.rest set (Word (codes "for")) w left before s.whole
    (stuck_stop region (λ l. IsInPlace region (is_some set) (Word (codes "for") ∷ l)) what.Service s.rest w left
    (λ m. m) (next_service region (is_some set)) (s.stuck region))

not_for : (region : Region) (b : Bool) (l : List Token) → IsNoHead (b || true) l
    → IsNotFirst region what.WordForService l
not_for region b [] none = tt
not_for region b (t ∷ l) none = λ (h, is, somewhere). none h is (λ _. somewhere)

not_in : (region : Region) (l : List Token) → IsNoHead true l → (BeginWith (codes "for") l → ⊥)
    → IsNotFirst region what.WordInSet l
not_in region [] none other = tt
not_in region (t ∷ l) none other = by
  where
    by : MayStand region what.WordInSet t → ⊥
    by (inl is) = other (l, ap (λ x. x ∷ l) is)
    by (inr (h, is, somewhere)) = none h is (λ _. somewhere)

not_word : (region : Region) (l : List Token) → IsNoHead false l → (BeginWith (codes "in") l → ⊥)
    → (BeginWith (codes "for") l → ⊥) → IsNotFirst region what.FirstWord l
not_word region [] none other another = tt
not_word region (t ∷ l) none other another = by
  where
    by : MayStand region what.FirstWord t → ⊥
    by (inl is) = other (l, ap (λ x. x ∷ l) is)
    by (inr (inl is)) = another (l, ap (λ x. x ∷ l) is)
    by (inr (inr (h, is))) = none h is (λ e. absurd (false≢true e))

wanted_for : (b : Bool) → word_wanted b true ≡ what.WordForService
wanted_for true = refl
wanted_for false = refl

head_stops : (region : Region) (tokens behind rest : List Token) (set service : Option ℕ) (w : Expectation) (left : ℕ)
    → IsBefore (codes "in") IsSet tokens set behind → IsBefore (codes "for") IsByte behind service rest
    → w ≡ word_wanted (is_some set) (is_some service) → left ≡ length rest
    → IsNoHead (is_some set || is_some service) rest → IsStop region (IsRead region) tokens w left
head_stops region tokens behind rest set (Some m) w left before (name, is, byte) w_is left_is none =
    lift region tokens behind (Word name ∷ rest) set (Word (codes "for")) w left before is
    (stop_behind region (λ l. IsInPlace region (is_some set) (Word (codes "for") ∷ l)) (Word name ∷ [])
    (Word name ∷ rest) rest w left refl
    (stuck_stop region (λ l. IsInPlace region (is_some set) (Word (codes "for") ∷ Word name ∷ l)) what.WordForService
    rest w left (λ x. x) (next_for region (is_some set) name m byte)
    (record {
      what_is = w_is ∙ wanted_for (is_some set);
      counted = left_is;
      none = not_for region (is_some set) rest none;
    })))
head_stops region tokens behind rest (Some n) None w left (name, is, named) (rest_is, other) w_is left_is none =
    stop_behind region (IsRead region) (Word (codes "in") ∷ Word name ∷ []) tokens rest w left
    (is ∙ ap (λ l. Word (codes "in") ∷ Word name ∷ l) (sym rest_is))
    (same_stop region (λ l. IsRead region (Word (codes "in") ∷ Word name ∷ l)) (IsInPlace region true) rest w left
    (in_same region name n named)
    (stuck_stop region (IsInPlace region true) what.WordInSet rest w left (λ x. x) (next_in region)
    (record {
      what_is = w_is;
      counted = left_is;
      none = not_in region rest none (subst (λ l. BeginWith (codes "for") l → ⊥) (sym rest_is) other);
    })))
head_stops region tokens behind rest None None w left (is, no_set) (rest_is, other) w_is left_is none =
    let whole : rest ≡ tokens = rest_is ∙ is in
    subst (λ l. IsStop region (IsRead region) l w left) whole
    (stuck_stop region (IsRead region) what.FirstWord rest w left (λ x. x) (next_first region)
    (record {
      what_is = w_is;
      counted = left_is;
      none = not_word region rest none (subst (λ l. BeginWith (codes "in") l → ⊥) (sym whole) no_set)
          (subst (λ l. BeginWith (codes "for") l → ⊥) (sym rest_is) other);
    }))

pub head_stop : (region : Region) (tokens behind rest : List Token) (set service : Option ℕ) (b d : Bool)
    (w : Expectation) (left : ℕ) → IsBefore (codes "in") IsSet tokens set behind
    → IsBefore (codes "for") IsByte behind service rest → b ≡ is_some set → d ≡ is_some service
    → w ≡ word_wanted b d → left ≡ length rest → IsNoHead (b || d) rest → IsStop region (IsRead region) tokens w left
head_stop region tokens behind rest set service b d w left before for_it b_is d_is w_is left_is none =
    head_stops region tokens behind rest set service w left before for_it
    (w_is ∙ ap (λ x. word_wanted x d) b_is ∙ ap (λ x. word_wanted (is_some set) x) d_is) left_is
    (subst (λ x. IsNoHead (is_some set || x) rest) d_is (subst (λ x. IsNoHead (x || d) rest) b_is none))

-- It may act where it does, by the tests of what was said.
pub may_act : (set service : Option ℕ) (b d : Bool) (h : Head) → b ≡ is_some set → d ≡ is_some service
    → ((b || d) ≡ true → acts_somewhere h ≡ true) → (is_some set || is_some service) ≡ true → acts_somewhere h ≡ true
may_act set service b d h b_is d_is may said =
    may (ap (λ x. x || d) b_is ∙ ap (λ x. is_some set || x) d_is ∙ said)

pub told_stop : (region : Region) (tokens behind left_over rest : List Token) (set service : Option ℕ) (t : Token)
    (h : Head) (w : Expectation) (left : ℕ) → IsBefore (codes "in") IsSet tokens set behind
    → IsBefore (codes "for") IsByte behind service left_over → left_over ≡ t ∷ rest → IsHead t h
    → ((is_some set || is_some service) ≡ true → acts_somewhere h ≡ true) → IsStop region (Told region h) rest w left
    → IsStop region (IsRead region) tokens w left
told_stop region tokens behind left_over rest set None t h w left before (same, _) is named may stop =
    lift region tokens behind rest set t w left before (sym same ∙ is)
    (same_stop region (λ l. IsInPlace region (is_some set) (t ∷ l)) (Told region h) rest w left
    (place_head region (is_some set) t h named (λ yes. may (ap (λ x. x || false) yes))) stop)
told_stop region tokens behind left_over rest set (Some m) t h w left before (name, whole, byte) is named may stop =
    lift region tokens behind (Word name ∷ t ∷ rest) set (Word (codes "for")) w left before
    (whole ∙ ap (λ l. Word (codes "for") ∷ Word name ∷ l) is)
    (stop_behind region (λ l. IsInPlace region (is_some set) (Word (codes "for") ∷ l)) (Word name ∷ t ∷ [])
    (Word name ∷ t ∷ rest) rest w left refl
    (same_stop region (λ l. IsInPlace region (is_some set) (Word (codes "for") ∷ Word name ∷ t ∷ l)) (Told region h)
    rest w left (place_service region (is_some set) t h name m named byte (may (or_true (is_some set)))) stop))

-- What is told and is too long makes the phrase one that is.
pub told_long : (region : Region) (tokens behind left_over rest : List Token) (set service : Option ℕ) (t : Token)
    (h : Head) (bytes : List ℕ) → IsBefore (codes "in") IsSet tokens set behind
    → IsBefore (codes "for") IsByte behind service left_over → left_over ≡ t ∷ rest → IsHead t h
    → Tells region h (is_some set || is_some service) (or_zero set) (or_zero service) rest bytes → 255 < length bytes
    → IsLong region tokens
told_long region tokens behind left_over rest set service t h bytes before for_it is named told many = record {
  bytes = bytes;
  phrase = phrase_read region tokens behind left_over rest set service t h bytes before for_it is named told;
  many = many;
}

-- ---- What stops is none.

pub unread_none : (region : Region) (tokens : List Token) (w : Expectation) (left : ℕ) → IsUnread region tokens w left
    → (bytes : List ℕ) → IsPhrase region tokens bytes → length bytes ≤ 255 → ⊥
unread_none region tokens w left (inl stop) bytes phrase few =
    stops_none region (IsRead region) tokens w left stop (bytes, phrase)
unread_none region tokens w left (inr (long, _, _)) bytes phrase few =
    let same = ap length (one_meaning region tokens bytes long.bytes phrase long.phrase) in
    let many = long.many in omega (arith, same, few, many)
