-- What comes of any texts, one after another (profile).
use Rattle.std.specs.Prelude.{◌≡◌, ◌+◌, ◌<◌, ◌^◌, ℕ, List, [], ◌∷◌, ◌++◌, map, flat_map, Some}
use Rattle.device_edges.specs.declared.outlet.Fate.{Fate}
use Rattle.device_edges.specs.declared.outlet.Fate.TheVariants.{Told, LeftOut}
use Rattle.device_edges.specs.Outlet.{Wording, Outlet, Comes, standing, gap, more, lines_of}

-- Texts of whole lines, and what came of each.
abbrev pub Texts : Type 0
Texts = List (Fate × List ℕ)

-- What goes out of them where so many lines were left out before: those that are told, whole and in their order, and
-- before the first behind a gap how many lines are missing there.
abbrev pub reading : Wording → (left_out : ℕ) → Texts → List ℕ
reading wording left_out [] = []
reading wording left_out ((Told, text) ∷ texts) = (gap wording left_out ++ text) ++ reading wording 0 texts
reading wording left_out ((LeftOut, text) ∷ texts) = reading wording (more left_out (lines_of text)) texts

-- How many lines were left out since the last that was told.
abbrev pub left : (left_out : ℕ) → Texts → ℕ
left left_out [] = left_out
left left_out ((Told, text) ∷ texts) = left 0 texts
left left_out ((LeftOut, text) ∷ texts) = left (more left_out (lines_of text)) texts

-- The sum of the numbers that are told.
abbrev pub counted : (left_out : ℕ) → Texts → ℕ
counted left_out [] = 0
counted left_out ((Told, text) ∷ texts) = left_out + counted 0 texts
counted left_out ((LeftOut, text) ∷ texts) = counted (more left_out (lines_of text)) texts

-- How many lines are left out of them.
abbrev pub missing : Texts → ℕ
missing [] = 0
missing ((Told, text) ∷ texts) = missing texts
missing ((LeftOut, text) ∷ texts) = lines_of text + missing texts

-- This came of the texts, one after another.
abbrev pub Runs : Wording → Texts → (o o' : Outlet) → Type 0
Runs wording [] o o' = o' ≡ o
Runs wording ((fate, text) ∷ texts) o o' =
    (between : Outlet) × Comes wording fate text o between × Runs wording texts between o'

-- Law: whatever the texts are and whatever comes of each, what goes out is that reading of them: no line out of its
-- order, none twice and none in part; and so many lines are left to be counted.
abbrev pub IsRead : Type 0
IsRead = (wording : Wording) (texts : Texts) (o o' : Outlet) (held : List ℕ) → standing o ≡ Some held
    → Runs wording texts o o'
    → (standing o' ≡ Some (held ++ reading wording o.left_out texts)) × (o'.left_out ≡ left o.left_out texts)

-- Law: where each is told they go out as they are.
abbrev pub IsAllTold : Type 0
IsAllTold = (wording : Wording) (texts : List (List ℕ)) → reading wording 0 (map (λ text. (Told, text)) texts)
    ≡ flat_map (λ text. text) texts

-- Law: the numbers that are told and what is left to be counted are as many lines as were left out, short of 2 ^ 64.
abbrev pub IsCounted : Type 0
IsCounted = (left_out : ℕ) (texts : Texts) → left_out + missing texts < 2 ^ 64
    → counted left_out texts + left left_out texts ≡ left_out + missing texts
