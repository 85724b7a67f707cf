-- Groups one after another of a store that stays, of which so many groups that waited are taken.
use Rattle.std.proofs.Common.{◌≡◌, ℕ, zero, suc, ◌+◌, Bool, true, false, List, [], ◌∷◌, drop, if◌then◌else◌, refl, sym}
use Rattle.std.proofs.Common.{ap}
use Rattle.std.proofs.Common.{◌∙◌, ◌-◌, ◌<◌, ◌++◌, arith}
use Rattle.std.proofs.Math.Numerals.{suc-eq-add-one}
use Rattle.rds_groups.specs.declared.group.Group.{Group as GroupOnAir}
use Rattle.rds_store.specs.Value.{Store}
use Rattle.rds_store.specs.Step.{first_taken, group_taken}
use Rattle.rds_store.specs.declared.group.Group.{Group}
use Rattle.carousel.specs.Carousel.{Carousel}
use Rattle.carousel.specs.Next.{is_queued, is_waiting, next_group, aired, behind}
use Rattle.output_forms.specs.declared.form.Form.{Form}
use Rattle.air_jobs.specs.Airing.{air_line, air_lines}

-- what is behind the first of those that are left
drop_first : (taken : ℕ) (groups rest : List Group) (g : Group) → drop taken groups ≡ g ∷ rest
    → drop (suc taken) groups ≡ rest
drop_first zero groups rest g e = ap (drop 1) e
drop_first (suc taken) [] rest g e = let none : [] ≡ g ∷ rest = e in cc
drop_first (suc taken) (h ∷ groups) rest g e = drop_first taken groups rest g e

took : (v : Store) (taken : ℕ) (left : List Group) → drop taken v.groups ≡ left → is_waiting left ≡ true
    → (first_taken (behind taken v) left).0 ≡ behind (taken + 1) v
took v taken [] e waits = let no : false ≡ true = waits in cc
took v taken (g ∷ rest) e waits =
    let one_more : suc taken ≡ taken + 1 = suc-eq-add-one taken in
    ap (λ (gs : List Group). record v { groups = gs }) (sym (drop_first taken v.groups rest g e))
    ∙ ap (λ (k : ℕ). behind k v) one_more

by_queued : (v : Store) (taken taken' : ℕ) (queued : Bool)
    → (queued ≡ true → is_waiting (drop taken v.groups) ≡ true) → taken' ≡ (if queued then taken + 1 else taken)
    → (if queued then (group_taken (behind taken v)).0 else behind taken v) ≡ behind taken' v
by_queued v taken taken' true waits is =
    took v taken (drop taken v.groups) refl (waits refl) ∙ sym (ap (λ k. behind k v) is)
by_queued v taken taken' false waits is = sym (ap (λ k. behind k v) is)

waits_where_queued : (other waits : Bool) → (if other then waits else false) ≡ true → waits ≡ true
waits_where_queued true waits e = e
waits_where_queued false waits e = let no : false ≡ true = e in cc

-- the store after a group, by how many were taken
pub taken_on : (v : Store) (taken taken' : ℕ) (c : Carousel)
    → taken' ≡ (if is_queued (behind taken v) c then taken + 1 else taken)
    → (aired (behind taken v) c).1 ≡ behind taken' v
taken_on v taken taken' c is =
    by_queued v taken taken' (is_queued (behind taken v) c)
    (waits_where_queued c.is_other (is_waiting (drop taken v.groups))) is

-- the lines that are left, by the group that comes next
pub lines_on : (form : Form) (groups group taken taken' : ℕ) (v : Store) (c c' : Carousel) (g : GroupOnAir)
    → group < groups → g ≡ (next_group (behind taken v) c).0 → c' ≡ (next_group (behind taken v) c).1
    → taken' ≡ (if is_queued (behind taken v) c then taken + 1 else taken)
    → air_lines form (groups - group) (behind taken v) c
    ≡ air_line form g ++ air_lines form (groups - (group + 1)) (behind taken' v) c'
lines_on form groups group taken taken' v c c' g within g_is c_is taken_is =
    let left = groups - (group + 1) in
    let now = aired (behind taken v) c in
    let more : groups - group ≡ suc left = omega arith in
    ap (λ (n : ℕ). air_lines form n (behind taken v) c) more
    ∙ ap (λ (h : GroupOnAir). air_line form h ++ air_lines form left now.1 now.2) (sym g_is)
    ∙ ap (λ (w : Store). air_line form g ++ air_lines form left w now.2) (taken_on v taken taken' c taken_is)
    ∙ ap (λ (k : Carousel). air_line form g ++ air_lines form left (behind taken' v) k) (sym c_is)
