use Rattle.bad_line.proofs.connections.effect.write_words.Goals as goal

pub returns-clause-written : goal.returns-clause-written
returns-clause-written g c = c.write_parts.ensures.written

pub returns-clause-begun : goal.returns-clause-begun
returns-clause-begun g c = c.write_parts.ensures.begun
