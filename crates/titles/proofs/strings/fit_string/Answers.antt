use Rattle.std.proofs.Common.{subst}
use Rattle.titles.specs.Parts.{IsPartOf}
use Rattle.titles.specs.declared.strings.Part.TheVariants as part
use Rattle.titles.proofs.Stringing.{goes_nowhere, goes_on, goes_to_end}
use Rattle.titles.proofs.strings.fit_string.Goals as goal

pub parts-preserved : goal.parts-preserved
parts-preserved c =
    let was = c.parts.bytes.items in
    let now = c.next_part.new.bytes.items in
    let is : IsPartOf c.parts.left.now (part.Escaped c.in-Escaped.more) was now =
    subst (λ p. IsPartOf c.parts.left.now p was now) c.in-Escaped.is c.in_ok-more.ensures in
    let (run, escape, first, byte, whole, plain, are, escaped, put) = is in
    goes_on c.args.body.now c.parts.left.now c.in-Escaped.more.now c.args.bytes.now.items was now run escape first byte
    c.parts.invariant whole plain are escaped put

pub returns-in-Closed-clause-some : goal.returns-in-Closed-clause-some
returns-in-Closed-clause-some c =
    let was = c.parts.bytes.items in
    let now = c.next_part.new.bytes.items in
    let is : IsPartOf c.parts.left.now (part.Closed c.in-Closed.behind) was now =
    subst (λ p. IsPartOf c.parts.left.now p was now) c.in-Closed.is c.in_ok-more.ensures in
    let (run, whole, put) = is in
    goes_to_end c.args.body.now c.parts.left.now c.in-Closed.behind.now c.args.bytes.now.items was now run
    c.parts.invariant whole put

pub returns-in-None-clause-none : goal.returns-in-None-clause-none
returns-in-None-clause-none c =
    let was = c.parts.bytes.items in
    let now = c.next_part.new.bytes.items in
    let is : IsPartOf c.parts.left.now part.None was now =
    subst (λ p. IsPartOf c.parts.left.now p was now) c.in-None.is c.in_ok-more.ensures in
    let (run, rest, whole, put, none) = is in
    goes_nowhere c.args.body.now c.parts.left.now c.args.bytes.now.items was now run rest c.parts.invariant whole put
    none
