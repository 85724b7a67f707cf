-- Lines that are handed out of what was read.
use Rattle.std.proofs.Common.{◌≡◌, ◌≢◌, ℕ, false, List, [], ◌∷◌, ◌++◌, length, map, Option, Some}
use Rattle.std.proofs.Common.{None, refl, ◌∙◌, ap, sym, subst, arith, append_assoc, append-nil, length-append, inl, inr}
use Rattle.std.proofs.Common.{nat_le, cond}
use Rattle.std.proofs.lemmas.Bool.{cases_Bool}
use Rattle.std.proofs.lemmas.Bool.Decides.{nat_tests}
use Rattle.std.proofs.lemmas.List.{map-append}
use Rattle.std.proofs.lemmas.List.Elements.{All-nil, All-cons, All-append}
use Rattle.page.specs.declared.intake.open_line.Cut.{Cut}
use Rattle.page.specs.declared.intake.open_line.Cut.TheVariants.{Line, TooLong, Nothing}
use Rattle.page.specs.Lines.{HasNoEnd, ended, handed, longer, HeldLine, IsLast, Cutting, nothing_read}
use Rattle.page.specs.Lines.{Cuts, Turn, bytes_come, is_asked, Runs, bytes_of, out_of, handed_of, Stands}
use Rattle.page.specs.Lines.{last_of, AreAll}

-- one line more has ended
ended_more : (lines : List (List ℕ)) (line : List ℕ) → ended (lines ++ line ∷ []) ≡ ended lines ++ (line ++ 10 ∷ [])
ended_more [] line = refl
ended_more (first ∷ lines) line =
    ap (λ l. first ++ 10 ∷ l) (ended_more lines line)
    ∙ sym (append_assoc first (10 ∷ ended lines) (line ++ 10 ∷ []))

-- what goes on with more bytes is known as all of them together are
longer_handed : (rest text : List ℕ) → longer (handed rest) text ≡ handed (rest ++ text)
longer_handed rest text =
    elim (cases_Bool (nat_le (length rest) 65536)) [
      | inl short ↦ ap (λ b. longer (cond b (Some rest) None) text) short
      | inr long ↦
          let n = length-append rest text in
          let over : nat_le (length (rest ++ text)) 65536 ≡ false = grind (arith, nat_tests, n, long) in
          ap (λ b. longer (cond b (Some rest) None) text) long
          ∙ sym (ap (λ b. cond b (Some (rest ++ text)) None) over)
    ]

-- more bytes came, where all before was cut
pub stands_bytes : (bytes more : List ℕ) (out : List (Option (List ℕ))) (x : Cutting) → Stands bytes out x
    → x.ahead ≡ [] → Stands (bytes ++ more) out (record x { ahead = more })
stands_bytes bytes more out x so none = record {
  lines = so.lines;
  rest = so.rest;
  parts =
      ap (λ l. l ++ more) (so.parts ∙ ap (λ a. ended so.lines ++ (so.rest ++ a)) none
      ∙ ap (λ r. ended so.lines ++ r) (append-nil so.rest))
      ∙ append_assoc (ended so.lines) so.rest more;
  no_ends = so.no_ends;
  no_end = so.no_end;
  out_is = so.out_is;
  begun_is = so.begun_is;
}

-- a line ended, and was handed out
stands_line : (bytes : List ℕ) (out : List (Option (List ℕ))) (x x' : Cutting) (text : List ℕ)
    (told : Option (List ℕ)) → Stands bytes out x → HasNoEnd text → x.ahead ≡ text ++ 10 ∷ x'.ahead
    → longer x.held.begun text ≡ told → x'.held.begun ≡ Some [] → Stands bytes (out ++ told ∷ []) x'
stands_line bytes out x x' text told so no_end front made fresh =
    let line = so.rest ++ text in
    let known : handed line ≡ told =
    sym (longer_handed so.rest text) ∙ ap (λ b. longer b text) (sym so.begun_is) ∙ made in
    record {
      lines = so.lines ++ line ∷ [];
      rest = [];
      parts =
          so.parts ∙ ap (λ a. ended so.lines ++ (so.rest ++ a)) front
          ∙ ap (λ l. ended so.lines ++ l) (sym (append_assoc so.rest text (10 ∷ x'.ahead))
          ∙ sym (append_assoc line (10 ∷ []) x'.ahead))
          ∙ sym (append_assoc (ended so.lines) (line ++ 10 ∷ []) x'.ahead)
          ∙ ap (λ l. l ++ x'.ahead) (sym (ended_more so.lines line));
      no_ends =
          All-append HasNoEnd so.lines (line ∷ []) so.no_ends
          (All-cons HasNoEnd line [] (All-append (λ byte. byte ≢ 10) so.rest text so.no_end no_end) (All-nil HasNoEnd));
      no_end = All-nil (λ byte. byte ≢ 10);
      out_is =
          ap (λ l. l ++ told ∷ []) so.out_is ∙ ap (λ t. map handed so.lines ++ t ∷ []) (sym known)
          ∙ sym (map-append handed so.lines (line ∷ []));
      begun_is = fresh;
    }

-- the next line was asked for
pub stands_cut : (bytes : List ℕ) (out : List (Option (List ℕ))) (x x' : Cutting) (cut : Cut) → Stands bytes out x
    → Cuts x x' cut → Stands bytes (out ++ out_of cut x'.held.line) x'
stands_cut bytes out x x' Line so cuts =
    stands_line bytes out x x' cuts.text (Some x'.held.line) so cuts.no_end cuts.parts cuts.handed.0 cuts.handed.1
stands_cut bytes out x x' TooLong so cuts =
    stands_line bytes out x x' cuts.text None so cuts.no_end cuts.parts cuts.handed.0 cuts.handed.2
stands_cut bytes out x x' Nothing so (none, begun, over) = record {
  lines = so.lines;
  rest = so.rest ++ x.ahead;
  parts =
      so.parts ∙ ap (λ l. ended so.lines ++ l) (sym (append-nil (so.rest ++ x.ahead))
      ∙ ap (λ a. (so.rest ++ x.ahead) ++ a) (sym over));
  no_ends = so.no_ends;
  no_end = All-append (λ byte. byte ≢ 10) so.rest x.ahead so.no_end none;
  out_is = append-nil out ∙ so.out_is;
  begun_is = begun ∙ ap (λ b. longer b x.ahead) so.begun_is ∙ longer_handed so.rest x.ahead;
}

stands_on : (bytes : List ℕ) (out : List (Option (List ℕ))) (turns : List Turn) (x x' : Cutting) → Stands bytes out x
    → Runs x turns x' → Stands (bytes ++ bytes_of turns) (out ++ handed_of turns) x'
stands_on bytes out [] x x' so same =
    subst (λ b. Stands b (out ++ []) x') (sym (append-nil bytes))
    (subst (λ o. Stands bytes o x') (sym (append-nil out)) (subst (Stands bytes out) (sym same) so))
stands_on bytes out (bytes_come more ∷ turns) x x' so (next, (none, made), runs) =
    let step = subst (Stands (bytes ++ more) out) (sym made) (stands_bytes bytes more out x so none) in
    subst (λ b. Stands b (out ++ handed_of turns) x') (append_assoc bytes more (bytes_of turns))
    (stands_on (bytes ++ more) out turns next x' step runs)
stands_on bytes out (is_asked cut line ∷ turns) x x' so (next, (cuts, told), runs) =
    let step = subst (λ l. Stands bytes (out ++ out_of cut l) next) (sym told)
    (stands_cut bytes out x next cut so cuts) in
    subst (λ o. Stands (bytes ++ bytes_of turns) o x') (append_assoc out (out_of cut line) (handed_of turns))
    (stands_on bytes (out ++ out_of cut line) turns next x' step runs)

pub stands_first : Stands [] [] nothing_read
stands_first = record {
  lines = [];
  rest = [];
  parts = refl;
  no_ends = All-nil HasNoEnd;
  no_end = All-nil (λ byte. byte ≢ 10);
  out_is = refl;
  begun_is = refl;
}

pub each_line_once : (turns : List Turn) (x : Cutting) → Runs nothing_read turns x
    → Stands (bytes_of turns) (handed_of turns) x
each_line_once turns x runs = stands_on [] [] turns nothing_read x stands_first runs

-- the last line was handed out
all_with : (bytes : List ℕ) (out : List (Option (List ℕ))) (x : Cutting) (more : List (Option (List ℕ)))
    → (so : Stands bytes out x) → x.ahead ≡ [] → more ≡ map handed (last_of so.rest) → AreAll bytes (out ++ more)
all_with bytes out x more so none made = record {
  lines = so.lines;
  rest = so.rest;
  parts =
      so.parts ∙ ap (λ a. ended so.lines ++ (so.rest ++ a)) none ∙ ap (λ r. ended so.lines ++ r) (append-nil so.rest);
  no_ends = so.no_ends;
  no_end = so.no_end;
  out_is =
      ap (λ o. o ++ more) so.out_is ∙ ap (λ m. map handed so.lines ++ m) made
      ∙ sym (map-append handed so.lines (last_of so.rest));
}

last_told : (rest : List ℕ) (told : Option (List ℕ)) → handed rest ≡ told → (told ≡ Some [] → ⊥)
    → told ∷ [] ≡ map handed (last_of rest)
last_told [] told same some = absurd (some (sym same))
last_told (byte ∷ rest) told same some = ap (λ t. t ∷ []) (sym same)

none_told : (rest : List ℕ) → handed rest ≡ Some [] → [] ≡ map handed (last_of rest)
none_told [] same = refl
none_told (byte ∷ rest) same =
    elim (cases_Bool (nat_le (length (byte ∷ rest)) 65536)) [
      | inl short ↦
          let e : Some (byte ∷ rest) ≡ Some [] =
          sym (ap (λ b. cond b (Some (byte ∷ rest)) None) short) ∙ same in
          absurd (cc)
      | inr long ↦
          let e : None ≡ Some [] = sym (ap (λ b. cond b (Some (byte ∷ rest)) None) long) ∙ same in
          absurd (cc)
    ]

pub all_lines_at_end : (bytes : List ℕ) (out : List (Option (List ℕ))) (x : Cutting) (held : HeldLine) (cut : Cut)
    → Stands bytes out x → x.ahead ≡ [] → IsLast x.held held cut → AreAll bytes (out ++ out_of cut held.line)
all_lines_at_end bytes out x held Line so none ((same, fresh), some) =
    all_with bytes out x (Some held.line ∷ []) so none
    (last_told so.rest (Some held.line) (sym so.begun_is ∙ same) (λ e. some (cc)))
all_lines_at_end bytes out x held TooLong so none (same, over, fresh) =
    all_with bytes out x (None ∷ []) so none (last_told so.rest None (sym so.begun_is ∙ same) (λ e. absurd (cc)))
all_lines_at_end bytes out x held Nothing so none (same, kept) =
    all_with bytes out x [] so none (none_told so.rest (sym so.begun_is ∙ same))
