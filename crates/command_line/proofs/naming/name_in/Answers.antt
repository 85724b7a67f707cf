use Rattle.std.proofs.Common.{rules, ◌≡◌, refl, sym, subst, ap, ◌∙◌, codes, option_map, Some, true, false, inl, inr}
use Rattle.clap.specs.Words.{found_of, one_of, rows_of}
use Rattle.clap.proofs.WalkLemmas.{first_value-rows}
use Rattle.command_line.specs.CommandLine.{IsFlag}
use Rattle.command_line.specs.Naming.{is_name}
use Rattle.command_line.proofs.naming.name_in.Goals as goal

pub returns-in-None-clause-named : goal.returns-in-None-clause-named
returns-in-None-clause-named c = inl (sym (sym (ap (option_map (λ s. s.now)) c.in-None.is) ∙ c.get_str.ensures
    ∙ first_value-rows (found_of c.args.found.now) (codes "name")))

pub returns-then-not-is_name-clause-refused : goal.returns-then-not-is_name-clause-refused
returns-then-not-is_name-clause-refused c =
    let no : c.is_name.result ≡ false = search rules in
    inr (
      c.in_ok-error.error,
      refl,
      c.in_ok-error.ensures.kind,
      c.in-Some.name.now,
      sym (first_value-rows (found_of c.args.found.now) (codes "name")) ∙ sym c.get_str.ensures
          ∙ ap (option_map (λ s. s.now)) c.in-Some.is,
      ap is_name (sym c.as_bytes.ensures.value) ∙ sym c.is_name.ensures ∙ no,
    )

pub returns-clause-named : goal.returns-clause-named
returns-clause-named c =
    let on : c.flag_of.result ≡ true = search rules in
    let yes : c.is_name.result ≡ true = search rules in (
      sym (ap Some c.in_ok-from_str.ensures.ok ∙ sym (ap (option_map (λ s. s.now)) c.in-Some.is)
          ∙ c.get_str.ensures ∙ first_value-rows (found_of c.args.found.now) (codes "name")),
      ap is_name (c.in_ok-from_str.ensures.ok ∙ sym c.as_bytes.ensures.value) ∙ sym c.is_name.ensures ∙ yes,
      subst (IsFlag (one_of (codes "json") (rows_of (found_of c.args.found.now)))) on c.flag_of.ensures,
    )
