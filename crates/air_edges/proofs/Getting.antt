-- One who listens, and all.
use Rattle.std.proofs.Common.{◌≡◌, ◌<◌, ◌≤◌, ◌+◌, ℕ, suc, List, [], ◌∷◌, ◌++◌, length, take, drop, Option}
use Rattle.std.proofs.Common.{refl, sym, ap, subst, ◌∙◌, inl, inr, arith, length-append, append_assoc}
use Rattle.std.proofs.Common.{get_or, set}
use Rattle.std.proofs.Math.Numerals.{add-one}
use Rattle.std.proofs.lemmas.List.{take-append-drop, length-take-le, append-nil}
use Rattle.std.proofs.Math.Seq.{get_or-append_seam, set-append_seam, take-append_seam, drop-append-add}
use Rattle.std.specs.Io.KnownBytes.{Appends}
use Rattle.air_edges.specs.declared.hears.Taken.{Taken}
use Rattle.air_edges.specs.declared.hears.Taken.TheVariants.{First, Gone}
use Rattle.air_edges.specs.Hearers.{Hearing, GetsGroup, IsGone, IsSlow, GoesOut}

module _ {H : Type 0} (takes : H → List ℕ → Taken → H → Type 0) where
  -- by what its connection took of what it was offered
  pub gets_first : (contents : H → Option (List ℕ)) (bytes offered : List ℕ) (h h' : Hearing H) (count : ℕ)
      → h'.origin ≡ h.origin → offered ≡ h.waiting ++ bytes → length h.waiting + length bytes ≤ 4096
      → h'.waiting ≡ drop count offered
      → count ≤ length offered → takes h.output offered (First count) h'.output
      → Appends (contents h.output) (contents h'.output) (take count offered) → GetsGroup takes contents bytes h h'
  gets_first contents bytes offered h h' count from is room rest few took got = record {
    written = take count offered;
    same_origin = from;
    room = room;
    whole = ap (λ ys. take count offered ++ ys) rest ∙ take-append-drop count offered ∙ is;
    got = got;
    takes_so =
        inl (subst (λ (n : ℕ). takes h.output (h.waiting ++ bytes) (First n) h'.output)
        (sym (length-take-le count offered few))
        (subst (λ (xs : List ℕ). takes h.output xs (First count) h'.output) is took));
  }

  -- by what it said as it was offered the bytes
  pub is_gone : (bytes offered : List ℕ) (h : Hearing H) (after : H) → offered ≡ h.waiting ++ bytes
      → length h.waiting + length bytes ≤ 4096 → takes h.output offered Gone after → IsGone takes bytes h
  is_gone bytes offered h after is room took =
      (room, (after, subst (λ (xs : List ℕ). takes h.output xs Gone after) is took))

nothing : {A : Type 0} → (xs : List A) → length xs ≤ 0 → xs ≡ []
nothing [] few = refl
nothing (x ∷ xs) few = absurd (elim few [ ])

first_rest : {A : Type 0} → (xs : List A) → 0 < length xs → (x : A) × (ys : List A) × (xs ≡ x ∷ ys)
first_rest [] some = absurd (elim some [ ])
first_rest (x ∷ xs) some = (x, xs, refl)

module _ {H : Type 0} (takes : H → List ℕ → Taken → H → Type 0) (contents : H → Option (List ℕ)) (bytes : List ℕ) where
  -- one more of those who listen, behind the others, was sent the bytes
  pub stays_last : (slow : ℕ) (passed kept : List (Hearing H)) (h h' : Hearing H)
      → GoesOut takes contents bytes slow passed kept → GetsGroup takes contents bytes h h'
      → GoesOut takes contents bytes slow (passed ++ h ∷ []) (kept ++ h' ∷ [])
  stays_last slow [] kept h h' goes gets =
      inl (h', [], gets, ap (λ ks. ks ++ h' ∷ []) goes.0, (refl, goes.1))
  stays_last slow (p ∷ ps) kept h h' goes gets = elim goes [
    | inl more ↦ inl (
      more.0,
      more.1 ++ h' ∷ [],
      more.2,
      ap (λ ks. ks ++ h' ∷ []) more.3,
      stays_last slow ps more.1 h h' more.4 gets,
    )
    | inr out ↦ elim out [
      | inl gone ↦ inr (inl (gone.0, stays_last slow ps kept h h' gone.1 gets))
      | inr late ↦ inr (inr (late.0, late.1, late.2, stays_last late.0 ps kept h h' late.3 gets))
    ]
  ]

  pub gone_last : (slow : ℕ) (passed kept : List (Hearing H)) (h : Hearing H)
      → GoesOut takes contents bytes slow passed kept → IsGone takes bytes h
      → GoesOut takes contents bytes slow (passed ++ h ∷ []) kept
  gone_last slow [] kept h goes gone = inr (inl (gone, goes))
  gone_last slow (p ∷ ps) kept h goes gone = elim goes [
    | inl more ↦ inl (more.0, more.1, more.2, more.3, gone_last slow ps more.1 h more.4 gone)
    | inr out ↦ elim out [
      | inl away ↦ inr (inl (away.0, gone_last slow ps kept h away.1 gone))
      | inr late ↦ inr (inr (late.0, late.1, late.2, gone_last late.0 ps kept h late.3 gone))
    ]
  ]

  pub slow_last : (slow : ℕ) (passed kept : List (Hearing H)) (h : Hearing H)
      → GoesOut takes contents bytes slow passed kept → IsSlow takes bytes h
      → GoesOut takes contents bytes (suc slow) (passed ++ h ∷ []) kept
  slow_last slow [] kept h goes is_slow = inr (inr (slow, refl, is_slow, goes))
  slow_last slow (p ∷ ps) kept h goes is_slow = elim goes [
    | inl more ↦ inl (more.0, more.1, more.2, more.3, slow_last slow ps more.1 h more.4 is_slow)
    | inr out ↦ elim out [
      | inl away ↦ inr (inl (away.0, slow_last slow ps kept h away.1 is_slow))
      | inr late ↦ inr (inr (suc late.0, ap suc late.1, late.2, slow_last late.0 ps kept h late.3 is_slow))
    ]
  ]

  -- The bytes went out to all before this place.
  pub record HasGone (before now : List (Hearing H)) (place slow : ℕ) : Type 0 where
    pub passed : List (Hearing H)
    pub kept : List (Hearing H)
    pub left : List (Hearing H)
    pub split : before ≡ passed ++ left
    pub now_is : now ≡ kept ++ left
    pub place_is : place ≡ length kept
    pub few : slow ≤ length passed
    pub goes : GoesOut takes contents bytes slow passed kept

  pub none_gone : (before : List (Hearing H)) → HasGone before before 0 0
  none_gone before = record {
    passed = [];
    kept = [];
    left = before;
    split = refl;
    now_is = refl;
    place_is = refl;
    few = omega arith;
    goes = (refl, refl);
  }

  pub all_gone : (before now : List (Hearing H)) (place slow : ℕ) → HasGone before now place slow
      → length now ≤ place → GoesOut takes contents bytes slow before now
  all_gone before now place slow gone end =
      let none : gone.left ≡ [] = nothing gone.left (omega (
        arith,
        gone.place_is,
        ap length gone.now_is,
        length-append gone.kept gone.left,
      )) in
      subst (λ xs. GoesOut takes contents bytes slow xs now)
      (sym (gone.split ∙ ap (λ ys. gone.passed ++ ys) none ∙ append-nil gone.passed))
      (subst (λ xs. GoesOut takes contents bytes slow gone.passed xs)
      (sym (gone.now_is ∙ ap (λ ys. gone.kept ++ ys) none ∙ append-nil gone.kept)) gone.goes)

  -- The one at the place comes next.
  record Next (before now : List (Hearing H)) (place slow : ℕ) (h : Hearing H) : Type 0 where
    passed : List (Hearing H)
    kept : List (Hearing H)
    rest : List (Hearing H)
    split : before ≡ passed ++ h ∷ rest
    now_is : now ≡ kept ++ h ∷ rest
    place_is : place ≡ length kept
    few : slow ≤ length passed
    goes : GoesOut takes contents bytes slow passed kept

  next_of : (before now : List (Hearing H)) (place slow : ℕ) (d : Hearing H) → HasGone before now place slow
      → place < length now → Next before now place slow (get_or now place d)
  next_of before now place slow d gone more =
      let some : 0 < length gone.left = omega (
        arith,
        gone.place_is,
        ap length gone.now_is,
        length-append gone.kept gone.left,
        more,
      ) in
      let parts = first_rest gone.left some in
      let is : now ≡ gone.kept ++ parts.0 ∷ parts.1 = gone.now_is ∙ ap (λ ys. gone.kept ++ ys) parts.2 in
      let one : get_or now place d ≡ parts.0 = ap (λ xs. get_or xs place d) is
      ∙ ap (λ n. get_or (gone.kept ++ parts.0 ∷ parts.1) n d) gone.place_is
      ∙ get_or-append_seam gone.kept parts.0 parts.1 d in
      record {
        passed = gone.passed;
        kept = gone.kept;
        rest = parts.1;
        split = gone.split ∙ ap (λ ys. gone.passed ++ ys) (parts.2 ∙ ap (λ x. x ∷ parts.1) (sym one));
        now_is = is ∙ ap (λ x. gone.kept ++ x ∷ parts.1) (sym one);
        place_is = gone.place_is;
        few = gone.few;
        goes = gone.goes;
      }

  -- it stays
  pub one_stays : (before now : List (Hearing H)) (place slow : ℕ) (d h' : Hearing H) → HasGone before now place slow
      → place < length now → GetsGroup takes contents bytes (get_or now place d) h'
      → HasGone before (set now place h') (place + 1) slow
  one_stays before now place slow d h' gone more gets =
      let h = get_or now place d in
      let n = next_of before now place slow d gone more in
      record {
        passed = n.passed ++ h ∷ [];
        kept = n.kept ++ h' ∷ [];
        left = n.rest;
        split = n.split ∙ sym (append_assoc n.passed (h ∷ []) n.rest);
        now_is =
            ap (λ xs. set xs place h') n.now_is ∙ ap (λ i. set (n.kept ++ h ∷ n.rest) i h') n.place_is
            ∙ set-append_seam n.kept h n.rest h' ∙ sym (append_assoc n.kept (h' ∷ []) n.rest);
        place_is = omega (arith, n.place_is, length-append n.kept (h' ∷ []));
        few = omega (arith, n.few, length-append n.passed (h ∷ []));
        goes = stays_last slow n.passed n.kept h h' n.goes gets;
      }

  without : (before now : List (Hearing H)) (place slow : ℕ) (h h' : Hearing H) → (n : Next before now place slow h)
      → take place (set now place h') ++ drop (place + 1) (set now place h') ≡ n.kept ++ n.rest
  without before now place slow h h' n =
      let is : set now place h' ≡ n.kept ++ h' ∷ n.rest = ap (λ xs. set xs place h') n.now_is
      ∙ ap (λ i. set (n.kept ++ h ∷ n.rest) i h') n.place_is ∙ set-append_seam n.kept h n.rest h' in
      let front : take place (set now place h') ≡ n.kept = ap (λ xs. take place xs) is
      ∙ ap (λ i. take i (n.kept ++ h' ∷ n.rest)) n.place_is ∙ take-append_seam n.kept (h' ∷ n.rest) in
      let back : drop (place + 1) (set now place h') ≡ n.rest = ap (λ xs. drop (place + 1) xs) is
      ∙ ap (λ i. drop (i + 1) (n.kept ++ h' ∷ n.rest)) n.place_is ∙ drop-append-add n.kept (h' ∷ n.rest) 1 in
      ap (λ xs. xs ++ drop (place + 1) (set now place h')) front ∙ ap (λ ys. n.kept ++ ys) back

  -- it is let go, since its connection is gone
  pub one_gone : (before now : List (Hearing H)) (place slow : ℕ) (d h' : Hearing H) → HasGone before now place slow
      → place < length now → IsGone takes bytes (get_or now place d)
      → HasGone before (take place (set now place h') ++ drop (place + 1) (set now place h')) place slow
  one_gone before now place slow d h' gone more is =
      let h = get_or now place d in
      let n = next_of before now place slow d gone more in
      record {
        passed = n.passed ++ h ∷ [];
        kept = n.kept;
        left = n.rest;
        split = n.split ∙ sym (append_assoc n.passed (h ∷ []) n.rest);
        now_is = without before now place slow h h' n;
        place_is = n.place_is;
        few = omega (arith, n.few, length-append n.passed (h ∷ []));
        goes = gone_last slow n.passed n.kept h n.goes is;
      }

  -- it is let go as slow
  pub one_slow : (before now : List (Hearing H)) (place slow : ℕ) (d h' : Hearing H) → HasGone before now place slow
      → place < length now → IsSlow takes bytes (get_or now place d)
      → HasGone before (take place (set now place h') ++ drop (place + 1) (set now place h')) place (slow + 1)
  one_slow before now place slow d h' gone more is =
      let h = get_or now place d in
      let n = next_of before now place slow d gone more in
      record {
        passed = n.passed ++ h ∷ [];
        kept = n.kept;
        left = n.rest;
        split = n.split ∙ sym (append_assoc n.passed (h ∷ []) n.rest);
        now_is = without before now place slow h h' n;
        place_is = n.place_is;
        few = omega (arith, n.few, length-append n.passed (h ∷ []));
        goes = subst (λ k. GoesOut takes contents bytes k (n.passed ++ h ∷ []) n.kept) (sym (add-one slow))
            (slow_last slow n.passed n.kept h n.goes is);
      }

  -- no more were slow than listen
  pub few_slow : (before now : List (Hearing H)) (place slow : ℕ) → HasGone before now place slow
      → slow ≤ length before
  few_slow before now place slow gone =
      omega (arith, gone.few, ap length gone.split, length-append gone.passed gone.left)
