-- What came of the bytes of an input.
use Rattle.std.proofs.Common.{◌≡◌, ◌≢◌, ℕ, List, [], ◌∷◌, ◌++◌, Option, Some, None, refl}
use Rattle.std.proofs.Common.{sym, subst, append-nil, ◌⊎◌, inl, inr}
use Rattle.page.specs.declared.intake.open_line.Cut.{Cut}
use Rattle.page.specs.declared.intake.open_line.Cut.TheVariants.{Line, TooLong, Nothing}
use Rattle.page.specs.declared.intake.taking.Taken.{Taken}
use Rattle.page.specs.declared.intake.taking.Intake.{Intake}
use Rattle.page.specs.Lines.{Cutting, Cuts, IsLast, Stands, AreAll, out_of, nothing_read}
use Rattle.page.specs.Intake.{Board, board_of, TakesIn}
use Rattle.page.specs.Input.{at_start, cutting_of, bytes_left, TakesAll, IntakeOf, Brings, TakesNext}
use Rattle.page.specs.Input.{TakesLast, GoesOn, Ends}
use Rattle.page.proofs.Handing.{stands_bytes, stands_cut, stands_first, all_lines_at_end}

-- one line more was taken
takes_more : (out : List (Option (List ℕ))) (told : Option (List ℕ)) (came : ℕ) (before between behind : Board)
    (taken : Taken) → TakesAll out before between → TakesIn (bytes_left told) came between behind taken
    → TakesAll (out ++ told ∷ []) before behind
takes_more [] told came before between behind taken same takes =
    (came, behind, taken, subst (λ b. TakesIn (bytes_left told) came b behind taken) same takes, refl)
takes_more (first ∷ out) told came before between behind taken (then, next, first_taken, first_takes, rest) takes =
    (then, next, first_taken, first_takes, takes_more out told came next between behind taken rest takes)

pub begins : (first : ℕ) (i : Intake) → board_of i ≡ at_start first → cutting_of i ≡ nothing_read → IntakeOf first [] i
begins first i board cutting = record {
  out = [];
  stands = subst (Stands [] []) (sym cutting) stands_first;
  taken = board;
}

-- one read brought bytes
pub goes_on_with : (more : List ℕ) (i j : Intake) → (cutting_of i).ahead ≡ [] → Brings more i j → GoesOn more i j
goes_on_with more i j none (cutting, board) first bytes so = record {
  out = so.out;
  stands = subst (Stands (bytes ++ more) so.out) (sym cutting)
      (stands_bytes bytes more so.out (cutting_of i) so.stands none);
  taken = subst (TakesAll so.out (at_start first)) (sym board) so.taken;
}

-- what was handed out last is what was taken
takes_out : (cut : Cut) (out : List (Option (List ℕ))) (line : List ℕ) (came : ℕ) (before between behind : Board)
    (taken : Taken) → (cut ≢ Nothing) → (cut ≡ TooLong → line ≡ []) → TakesAll out before between
    → TakesIn line came between behind taken → TakesAll (out ++ out_of cut line) before behind
takes_out Line out line came before between behind taken some over all takes =
    takes_more out (Some line) came before between behind taken all takes
takes_out TooLong out line came before between behind taken some over all takes =
    takes_more out None came before between behind taken all
    (subst (λ l. TakesIn l came between behind taken) (over refl) takes)
takes_out Nothing out line came before between behind taken some over all takes = absurd (some refl)

-- a line was handed out
pub is_one : (cut : Cut) → (cut ≡ Line) ⊎ (cut ≡ TooLong) → cut ≢ Nothing
is_one cut (inl is) same = absurd (cc)
is_one cut (inr is) same = absurd (cc)

-- it is the line that was taken
pub takes_next : (came : ℕ) (i j : Intake) (between : Cutting) (cut : Cut) (taken : Taken)
    → (cut ≡ Line) ⊎ (cut ≡ TooLong)
    → Cuts (cutting_of i) between cut → cutting_of j ≡ between
    → TakesIn between.held.line came (board_of i) (board_of j) taken → TakesNext came i j (Some taken)
takes_next came i j between cut taken is cuts same takes = (
  cut,
  is_one cut is,
  subst (λ x. Cuts (cutting_of i) x cut) (sym same) cuts,
  subst (λ x. TakesIn x.held.line came (board_of i) (board_of j) taken) (sym same) takes,
)

pub takes_last : (came : ℕ) (i j : Intake) (between : Cutting) (cut : Cut) (taken : Taken)
    → (cut ≡ Line) ⊎ (cut ≡ TooLong)
    → IsLast (cutting_of i).held between.held cut → cutting_of j ≡ between
    → TakesIn between.held.line came (board_of i) (board_of j) taken → TakesLast came i j (Some taken)
takes_last came i j between cut taken is last same takes = (
  cut,
  is_one cut is,
  subst (λ x. IsLast (cutting_of i).held x.held cut) (sym same) last,
  subst (λ x. TakesIn x.held.line came (board_of i) (board_of j) taken) (sym same) takes,
)

none_left : (x x' : Cutting) (cut : Cut) → Cuts x x' cut → cut ≡ TooLong → x'.held.line ≡ []
none_left x x' Line cuts same = absurd (cc)
none_left x x' TooLong cuts same = cuts.handed.1
none_left x x' Nothing cuts same = absurd (cc)

-- the next line was taken, or none has ended
pub goes_on_next : (came : ℕ) (i j : Intake) (answer : Option Taken) → TakesNext came i j answer → GoesOn [] i j
goes_on_next came i j None (cuts, board) first bytes so = record {
  out = so.out ++ [];
  stands =
      subst (λ b. Stands b (so.out ++ []) (cutting_of j)) (sym (append-nil bytes))
      (stands_cut bytes so.out (cutting_of i) (cutting_of j) Nothing so.stands cuts);
  taken =
      subst (λ o. TakesAll o (at_start first) (board_of j)) (sym (append-nil so.out))
      (subst (TakesAll so.out (at_start first)) (sym board) so.taken);
}
goes_on_next came i j (Some taken) (cut, some, cuts, takes) first bytes so = record {
  out = so.out ++ out_of cut (cutting_of j).held.line;
  stands =
      subst (λ b. Stands b (so.out ++ out_of cut (cutting_of j).held.line) (cutting_of j)) (sym (append-nil bytes))
      (stands_cut bytes so.out (cutting_of i) (cutting_of j) cut so.stands cuts);
  taken =
      takes_out cut so.out (cutting_of j).held.line came (at_start first) (board_of i) (board_of j) taken some
      (none_left (cutting_of i) (cutting_of j) cut cuts) so.taken takes;
}

none_left_at_end : (cut : Cut) (x : Cutting) (x' : Cutting) → IsLast x.held x'.held cut → cut ≡ TooLong
    → x'.held.line ≡ []
none_left_at_end Line x x' last same = absurd (cc)
none_left_at_end TooLong x x' last same = last.1
none_left_at_end Nothing x x' last same = absurd (cc)

-- the last line was taken, or there is none
pub ends_last : (came : ℕ) (i j : Intake) (answer : Option Taken) → (cutting_of i).ahead ≡ []
    → TakesLast came i j answer → Ends [] i j
ends_last came i j None none (last, board) first bytes so = record {
  out = so.out ++ [];
  are_all =
      subst (λ b. AreAll b (so.out ++ [])) (sym (append-nil bytes))
      (all_lines_at_end bytes so.out (cutting_of i) (cutting_of j).held Nothing so.stands none last);
  taken =
      subst (λ o. TakesAll o (at_start first) (board_of j)) (sym (append-nil so.out))
      (subst (TakesAll so.out (at_start first)) (sym board) so.taken);
}
ends_last came i j (Some taken) none (cut, some, last, takes) first bytes so = record {
  out = so.out ++ out_of cut (cutting_of j).held.line;
  are_all =
      subst (λ b. AreAll b (so.out ++ out_of cut (cutting_of j).held.line)) (sym (append-nil bytes))
      (all_lines_at_end bytes so.out (cutting_of i) (cutting_of j).held cut so.stands none last);
  taken =
      takes_out cut so.out (cutting_of j).held.line came (at_start first) (board_of i) (board_of j) taken some
      (none_left_at_end cut (cutting_of i) (cutting_of j) last) so.taken takes;
}
