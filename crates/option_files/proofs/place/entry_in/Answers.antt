use Rattle.std.proofs.Common.{arith, ◌≡◌, ◌≢◌, ℕ, ◌+◌, ◌<◌, ◌≤◌, [], refl, ap, ◌∙◌, subst, inl, inr, length, take}
use Rattle.std.proofs.Common.{get_or}
use Rattle.std.proofs.lemmas.Bool.{cases_lt}
use Rattle.std.specs.Prelude.{Some}
use Rattle.toml.specs.Data.{no_members}
use Rattle.toml.specs.Parse.{parse_document}
use Rattle.toml.proofs.OnLiterals.{toml_on_literals}
use Rattle.option_files.specs.Words.{Text}
use Rattle.option_files.specs.Places.{BeginsLine, Lacks}
use Rattle.option_files.proofs.place.entry_in.Goals as goal

empty : parse_document [] ≡ Some no_members
unfolding toml_on_literals
empty = refl

none_yet : (name : Text) → Lacks name []
none_yet name = record { is_text = ([], (refl, refl)); read = no_members; is_read = empty; none = refl }

pub loop-index-init : goal.loop-index-init
loop-index-init c =
    (omega arith, inl refl, none_yet c.args.name.now, λ later above below begins lacks. absurd (omega arith))

later_than : (text : Text) (name : Text) (from index : ℕ) → index < length text
    → ((later : ℕ) → from < later → later ≤ index → BeginsLine text later → Lacks name (take later text) → ⊥)
    → (BeginsLine text (index + 1) → Lacks name (take (index + 1) text) → ⊥)
    → (later : ℕ) → from < later → later ≤ index + 1 → BeginsLine text later → Lacks name (take later text) → ⊥
later_than text name from index lt before here later above below begins lacks =
    elim (cases_lt index later) [
      | inl high ↦
          let same : later ≡ index + 1 = omega (arith, high, below) in
          here (subst (BeginsLine text) same begins) (subst (λ n. Lacks name (take n text)) same lacks)
      | inr low ↦ before later above low begins lacks
    ]

-- no line begins behind a byte that is no line feed
no_line : (text : Text) (index : ℕ) → get_or text index 0 ≢ 10 → BeginsLine text (index + 1) → ⊥
no_line text index other (inl none) = omega arith
no_line text index other (inr (before, at, lt, feed)) =
    let same : index ≡ before = omega (arith, at) in
    other (ap (λ n. get_or text n 0) same ∙ feed)

pub loop-index-preserved : goal.loop-index-preserved
loop-index-preserved c =
    let (low, begins, lacks, none) = c.loop-index.invariant in
    let text : Text = c.args.text.now in
    let name : Text = c.args.name.now in
    let index : ℕ = c.loop-index.index in
    elim c.if-byte-eq10.branch [
      | goal.then-byte-eq10+in_ok-from w ↦
          elim w.in_ok-from.ensures [
            | inl (behind, lacks') ↦
                let now : c.if-byte-eq10.from ≡ index + 1 = w.from-is ∙ behind in
                rw now (
                  omega arith,
                  inr (index, refl, c.loop-index-test.true, w.if-byte-eq10.true),
                  lacks',
                  λ later above below line less. absurd (omega (arith, above, below)),
                )
            | inr (stays, more) ↦
                let now : c.if-byte-eq10.from ≡ c.loop-index.from = w.from-is ∙ stays in
                rw now (
                  omega (arith, low),
                  begins,
                  lacks,
                  later_than text name c.loop-index.from index c.loop-index-test.true none (λ line. more),
                )
          ]
      | goal.else-byte-eq10 w ↦
          rw w.from-is (
            omega (arith, low),
            begins,
            lacks,
            later_than text name c.loop-index.from index c.loop-index-test.true none
                (λ line less. no_line text index w.if-byte-eq10.false line),
          )
    ]
