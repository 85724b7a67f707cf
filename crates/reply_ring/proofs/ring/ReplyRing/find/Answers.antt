use Rattle.std.proofs.Common.{◌≡◌, ◌≢◌, ℕ, Option, None, IfSome, IfNone, Contains, All, subst, sym, rules}
use Rattle.std.proofs.Common.{slice_index_or}
use Rattle.uecp_elements.specs.declared.code.Code.{Code}
use Rattle.reply_ring.specs.Ring.{kept_code}
use Rattle.reply_ring.proofs.Entries.{kept_is_held, none_is_held}
use Rattle.reply_ring.proofs.ring.ReplyRing.find.Goals as goal

pub returns-clause-some : goal.returns-clause-some
returns-clause-some c =
    let value : slice_index_or c.self.inside.codes c.from.result None ≡ kept_code c.args.self.now c.args.counter =
    search rules in
    subst (λ (o : Option Code). IfSome o (λ code. Contains c.args.self.now (c.args.counter, code))) (sym value)
    (kept_is_held c.args.self.now c.args.counter)

pub returns-clause-none : goal.returns-clause-none
returns-clause-none c =
    let value : slice_index_or c.self.inside.codes c.from.result None ≡ kept_code c.args.self.now c.args.counter =
    search rules in
    subst (λ (o : Option Code). IfNone o (All {X = ℕ × Code} (λ pair. pair.0 ≢ c.args.counter) c.args.self.now))
    (sym value) (none_is_held c.args.self.now c.args.counter)
