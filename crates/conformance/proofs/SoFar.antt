-- What of a file was read so far.
use Rattle.std.proofs.Common.{◌≡◌, ℕ, List, [], ◌∷◌, ◌++◌, refl, ◌∙◌, ap, sym, subst, append_assoc, append-nil, Option}
use Rattle.std.proofs.Common.{Some, None, filter_map}
use Rattle.uecp_text.specs.Input.{lines_of, said}
use Rattle.conformance.specs.declared.case.Case.{Case}
use Rattle.conformance.specs.declared.line.Line.{Line}
use Rattle.conformance.specs.declared.case_file.Open.{Open}
use Rattle.conformance.specs.declared.case_file.Open.TheVariants.{Start}
use Rattle.conformance.specs.Lines.{IsLine}
use Rattle.conformance.specs.Cases.{SayLines, Spells, Takes, so_far, all_lines}

-- of what the lines of a file say, so much is the lines so far
pub record ReadSoFar (file rest : List ℕ) (cases : List Case) (begun : Open) : Type 0 where
  pub before : List (List ℕ)
  pub joined : filter_map said (lines_of file) ≡ before ++ filter_map said (lines_of rest)
  pub say : SayLines before (so_far cases begun)

pub read_none : (file : List ℕ) (cases : List Case) → ReadSoFar file file cases Start
read_none file cases = record { before = []; joined = refl; say = tt }

say_more : (texts : List (List ℕ)) (lines : List Line) (text : List ℕ) (line : Line) → SayLines texts lines
    → IsLine text line → SayLines (texts ++ text ∷ []) (lines ++ line ∷ [])
say_more [] [] text line none is = (is, tt)
say_more [] (first ∷ lines) text line say is = absurd say
say_more (first ∷ texts) [] text line say is = absurd say
say_more (first ∷ texts) (first_line ∷ lines) text line (is_first, say) is =
    (is_first, say_more texts lines text line say is)

pub read_more : (file rest first more : List ℕ) (cases cases' : List Case) (begun begun' : Open)
    → ReadSoFar file rest cases begun → lines_of rest ≡ first ∷ lines_of more
    → Takes (said first) (so_far cases begun) (so_far cases' begun') → ReadSoFar file more cases' begun'
read_more file rest first more cases cases' begun begun' read lines takes = by_said (said first) refl takes
  where
    nothing_said : said first ≡ None
        → filter_map said (first ∷ lines_of more) ≡ filter_map said (lines_of more)
    nothing_said is = rw is

    something_said : (text : List ℕ) → said first ≡ Some text
        → filter_map said (first ∷ lines_of more) ≡ text ∷ filter_map said (lines_of more)
    something_said text is = rw is

    by_said : (o : Option (List ℕ)) → said first ≡ o → Takes o (so_far cases begun) (so_far cases' begun')
        → ReadSoFar file more cases' begun'
    by_said None is same = record {
      before = read.before;
      joined = read.joined ∙ ap (λ l. read.before ++ filter_map said l) lines
          ∙ ap (λ l. read.before ++ l) (nothing_said is);
      say = subst (SayLines read.before) (sym same) read.say;
    }
    by_said (Some text) is (line, is_line, joins) = record {
      before = read.before ++ text ∷ [];
      joined = read.joined ∙ ap (λ l. read.before ++ filter_map said l) lines
          ∙ ap (λ l. read.before ++ l) (something_said text is)
          ∙ sym (append_assoc read.before (text ∷ []) (filter_map said (lines_of more)));
      say = subst (SayLines (read.before ++ text ∷ [])) (sym joins)
          (say_more read.before (so_far cases begun) text line read.say is_line);
    }

no_lines : lines_of [] ≡ []
unfolding lines_of
no_lines = refl

pub read_all : (file rest : List ℕ) (cases cases' : List Case) (begun : Open) → ReadSoFar file rest cases begun
    → rest ≡ [] → so_far cases begun ≡ all_lines cases' → Spells file cases'
read_all file rest cases cases' begun read none ends =
    let texts : filter_map said (lines_of file) ≡ read.before =
    read.joined ∙ ap (λ r. read.before ++ filter_map said (lines_of r)) none
    ∙ ap (λ l. read.before ++ filter_map said l) no_lines ∙ append-nil read.before in
    subst (λ texts. SayLines texts (all_lines cases')) (sym texts) (subst (SayLines read.before) ends read.say)
