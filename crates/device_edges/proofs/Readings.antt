-- What comes of any texts, one after another.
use Rattle.std.proofs.Common.{◌≡◌, ◌+◌, ◌<◌, ◌^◌, ℕ, List, [], ◌∷◌, ◌++◌, Option, Some, None, arith, refl, sym, ◌∙◌, ap}
use Rattle.std.specs.Prelude.{map, flat_map}
use Rattle.std.specs.Io.KnownBytes.{Appends, Keeps}
use Rattle.std.proofs.lemmas.List.{append-nil, append_assoc}
use Rattle.device_edges.specs.declared.outlet.Fate.TheVariants.{Told, LeftOut}
use Rattle.device_edges.specs.Outlet.{Wording, Outlet, standing, gap, more, lines_of}
use Rattle.device_edges.specs.Readings.{Texts, reading, left, counted, missing, Runs}

-- ---- the counts
more_is : (n lines : ℕ) → n + lines < 2 ^ 64 → more n lines ≡ n + lines
more_is n lines h = omega arith

pub counted_whole : (texts : Texts) (n : ℕ) → n + missing texts < 2 ^ 64
    → counted n texts + left n texts ≡ n + missing texts
counted_whole [] n h = omega arith
counted_whole ((Told, text) ∷ texts) n h =
    let rest : counted 0 texts + left 0 texts ≡ 0 + missing texts = counted_whole texts 0 (omega arith) in
    omega (arith, rest)
counted_whole ((LeftOut, text) ∷ texts) n h =
    let is : more n (lines_of text) ≡ n + lines_of text = more_is n (lines_of text) (omega arith) in
    let small : more n (lines_of text) + missing texts < 2 ^ 64 = omega (arith, is) in
    let rest = counted_whole texts (more n (lines_of text)) small in
    omega (arith, is, rest)

-- ---- where each is told
pub told_as_they_are : (wording : Wording) (texts : List (List ℕ))
    → reading wording 0 (map (λ text. (Told, text)) texts) ≡ flat_map (λ text. text) texts
told_as_they_are wording [] = refl
told_as_they_are wording (text ∷ texts) = ap (λ rest. text ++ rest) (told_as_they_are wording texts)

-- ---- whatever comes of each
appended : (a b : Option (List ℕ)) (held bytes : List ℕ) → a ≡ Some held → Appends a b bytes
    → b ≡ Some (held ++ bytes)
appended None b held bytes is grows = absurd (let bad : None ≡ Some held = is in cc)
appended (Some xs) None held bytes is grows = absurd grows
appended (Some xs) (Some ys) held bytes is grows = let same : xs ≡ held = cc in
    ap Some grows ∙ ap (λ zs. Some (zs ++ bytes)) same

kept : (a b : Option (List ℕ)) (held : List ℕ) → a ≡ Some held → Keeps a b → b ≡ Some held
kept None b held is same = absurd (let bad : None ≡ Some held = is in cc)
kept (Some xs) None held is same = absurd same
kept (Some xs) (Some ys) held is same = ap Some same ∙ is

pub read_in_order : (wording : Wording) (texts : Texts) (o o' : Outlet) (held : List ℕ) → standing o ≡ Some held
    → Runs wording texts o o'
    → (standing o' ≡ Some (held ++ reading wording o.left_out texts)) × (o'.left_out ≡ left o.left_out texts)
read_in_order wording [] o o' held is runs = (
  ap (λ p. standing p) runs ∙ is ∙ ap Some (sym (append-nil held)),
  ap (λ p. p.left_out) runs,
)
read_in_order wording ((Told, text) ∷ texts) o o' held is (b, (grows, none), runs) =
    let now = held ++ (gap wording o.left_out ++ text) in
    let grown : standing b ≡ Some now = appended (standing o) (standing b) held _ is grows in
    let rest = read_in_order wording texts b o' now grown runs in (
      rest.0 ∙ ap (λ n. Some (now ++ reading wording n texts)) none
          ∙ ap Some (append_assoc held (gap wording o.left_out ++ text) (reading wording 0 texts)),
      rest.1 ∙ ap (λ n. left n texts) none,
    )
read_in_order wording ((LeftOut, text) ∷ texts) o o' held is (b, (stays, count), runs) =
    let rest = read_in_order wording texts b o' held (kept (standing o) (standing b) held is stays) runs in (
      rest.0 ∙ ap (λ n. Some (held ++ reading wording n texts)) count,
      rest.1 ∙ ap (λ n. left n texts) count,
    )
