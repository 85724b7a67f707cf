use Rattle.sqlite_image.proofs.kept.write.Goals as goal

pub returns-in-One-clause-made : goal.returns-in-One-clause-made
returns-in-One-clause-made g c clean =
    let old = rw c.in-One.is at (c.requires (c.update.ensures.clean clean)) in
    c.update.ensures.made c.args.version old.0 old.1 clean

pub returns-in-One-clause-left : goal.returns-in-One-clause-left
returns-in-One-clause-left g c clean rows may =
    let old = rw c.in-One.is at (c.requires (c.update.ensures.clean clean)) in
    (c.update.ensures.crash c.args.version old.0 old.1).crash clean rows may
