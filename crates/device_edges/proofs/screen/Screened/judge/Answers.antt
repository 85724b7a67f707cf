use Rattle.std.proofs.Common.{sym, ap, ◌∙◌, subst, take}
use Rattle.std.proofs.Common.{arith}
use Rattle.std.proofs.KnownBytes.{Keeps-trans}
use Rattle.std.specs.Io.KnownBytes.{Keeps, Consumes}
use Rattle.device_edges.specs.declared.screen.Phase.TheVariants.{Judging, Ours, Foreign}
use Rattle.device_edges.specs.Screen.{judged}
use Rattle.device_edges.proofs.FirstBytes.{of, begun, found, held_more, ended, few, one_byte}
use Rattle.device_edges.proofs.screen.Screened.judge.Goals as goal

pub returns-in-Ours-clause-keeps : goal.returns-in-Ours-clause-keeps
returns-in-Ours-clause-keeps g c =
    Keeps-trans _ _ _ (begun g.R.Read.remaining _ c.args.self.now c.self.view_is c.requires)
    (Keeps-trans _ _ _ c.loop-read.invariant.1 (found (g.R.Read.remaining c.loop-read.self-inside.reader)
    c.loop-read.self-inside.first.items Ours (sym c.in-Ours.is ∙ c.phase_of.ensures
    ∙ ap judged c.as_slice.ensures.value)))

pub returns-in-Foreign-clause-keeps : goal.returns-in-Foreign-clause-keeps
returns-in-Foreign-clause-keeps g c =
    Keeps-trans _ _ _ (begun g.R.Read.remaining _ c.args.self.now c.self.view_is c.requires)
    (Keeps-trans _ _ _ c.loop-read.invariant.1 (found (g.R.Read.remaining c.loop-read.self-inside.reader)
    c.loop-read.self-inside.first.items Foreign (sym c.in-Foreign.is ∙ c.phase_of.ensures
    ∙ ap judged c.as_slice.ensures.value)))

pub returns-then-branch-eq0-clause-keeps : goal.returns-then-branch-eq0-clause-keeps
returns-then-branch-eq0-clause-keeps g c =
    Keeps-trans _ _ _ (begun g.R.Read.remaining _ c.args.self.now c.self.view_is c.requires)
    (Keeps-trans _ _ _ c.loop-read.invariant.1 (ended (g.R.Read.remaining c.loop-read.self-inside.reader)
    (g.R.Read.remaining c.read.new.self)
    c.loop-read.self-inside.first.items (sym (ap judged c.as_slice.ensures.value) ∙ sym c.phase_of.ensures
    ∙ c.in-Judging.is) (subst (λ n. Consumes (g.R.Read.remaining c.loop-read.self-inside.reader)
    (g.R.Read.remaining c.read.new.self) (take n c.read.new.buf)) c.if-branch-eq0.true c.in_ok-read.ensures.bytes.0)
    (c.in_ok-read.ensures.bytes.1 c.if-branch-eq0.true (grind (arith, c.read.auto.buf)))))

pub push-requires : goal.push-requires
push-requires g c =
    let some = few c.loop-read.self-inside.first.items
    (sym (ap judged c.as_slice.ensures.value) ∙ sym c.phase_of.ensures ∙ c.in-Judging.is) in
    (grind arith, grind (arith, some))

pub loop-read-preserved : goal.loop-read-preserved
loop-read-preserved g c = (
  c.loop-read.invariant.0,
  Keeps-trans _ _ _ c.loop-read.invariant.1 (subst
      (λ xs. Keeps (of Judging c.loop-read.self-inside.first.items (g.R.Read.remaining c.loop-read.self-inside.reader))
      (of Judging xs (g.R.Read.remaining c.read.new.self))) (sym c.push.ensures.items) (held_more
      (g.R.Read.remaining c.loop-read.self-inside.reader) (g.R.Read.remaining c.read.new.self)
      c.loop-read.self-inside.first.items _
      (subst (λ xs. Consumes (g.R.Read.remaining c.loop-read.self-inside.reader)
      (g.R.Read.remaining c.read.new.self) xs) (one_byte c.in_ok-read.field-0 c.read.new.buf c.read.auto.buf
      c.in_ok-read.ensures.bound.0 c.if-branch-eq0.false) c.in_ok-read.ensures.bytes.0))),
)
