use Rattle.std.proofs.Common.{◌≡◌, ◌-◌, ℕ, nat_lt, length, ap, sym, subst, ◌∙◌, arith}
use Rattle.std.proofs.lemmas.Bool.{lt-ltb, le-ltb}
use Rattle.uecp_link.specs.Server.{is_marked}
use Rattle.uecp_link.specs.Holds.{LineState, let_go, IsLine, once_of}
use Rattle.uecp_link.proofs.Least.{or_true, or_false}
use Rattle.uecp_link.proofs.Steps.{least_acknowledged}
use Rattle.uecp_link.proofs.line.Line.is_acknowledged.Goals as goal

pub returns-then-number-least-clause-value : goal.returns-then-number-least-clause-value
returns-then-number-least-clause-value g c =
    let line : LineState _ = c.args.self.now in
    let is : IsLine line = subst (λ (l : LineState _). IsLine l) c.self.view_is c.self.invariant.is_line in
    let least : c.acknowledged-least.result ≡ let_go line =
    c.acknowledged-least.ensures.value ∙ least_acknowledged line.encoder.address line.encoder line.server (once_of line)
    (length line.codes) (let_go line) is in
    lt-ltb c.args.number c.acknowledged-least.result c.if-number-least.true
    ∙ sym (or_true (nat_lt c.args.number (let_go line)) (is_marked line.server.held (c.args.number - let_go line))
    (lt-ltb c.args.number (let_go line) (omega (arith, least, c.if-number-least.true))))

pub returns-else-number-least-clause-value : goal.returns-else-number-least-clause-value
returns-else-number-least-clause-value g c =
    let line : LineState _ = c.args.self.now in
    let is : IsLine line = subst (λ (l : LineState _). IsLine l) c.self.view_is c.self.invariant.is_line in
    let least : c.acknowledged-least.result ≡ let_go line =
    c.acknowledged-least.ensures.value ∙ least_acknowledged line.encoder.address line.encoder line.server (once_of line)
    (length line.codes) (let_go line) is in
    c.is_marked.ensures
    ∙ (ap (λ (l : LineState _). is_marked l.server.held (c.args.number - c.acknowledged-least.result)) c.self.view_is
    ∙ (ap (λ (n : ℕ). is_marked line.server.held (c.args.number - n)) least
    ∙ sym (or_false (nat_lt c.args.number (let_go line)) (is_marked line.server.held (c.args.number - let_go line))
    (le-ltb c.args.number (let_go line) (omega (arith, least, c.if-number-least.false))))))

pub returns-else-number-least-clause-applied : goal.returns-else-number-least-clause-applied
returns-else-number-least-clause-applied g c = λ told.
    let line : LineState _ = c.args.self.now in
    let is : IsLine line = subst (λ (l : LineState _). IsLine l) c.self.view_is c.self.invariant.is_line in
    is.within c.args.number (sym (returns-else-number-least-clause-value g c) ∙ told)
