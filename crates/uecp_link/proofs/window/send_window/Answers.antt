use Rattle.std.proofs.Common.{refl, take, rules}
use Rattle.uecp_link.specs.Window.{window_sent}
use Rattle.uecp_link.proofs.Windowing.{windows_unread, windows_read}
use Rattle.uecp_link.proofs.window.send_window.Goals as goal

pub returns-in-Err-clause-windows : goal.returns-in-Err-clause-windows
returns-in-Err-clause-windows g c =
    let (below, wrote) = c.in-Err.ensures.err in
    windows_unread g.R.Read.remaining g.W.Write.contents c.args.server.now c.args.reader.now c.args.writer.now
    c.write_window.new.writer c.args.marks.now.items c.args.turns
    (take c.in-Err.written (window_sent c.args.server.now)) _ wrote
    (search rules) (search rules) refl

pub returns-clause-windows : goal.returns-clause-windows
returns-clause-windows g c =
    windows_read g.R.Read.remaining g.W.Write.contents c.args.server.now c.gather.new.server c.args.reader.now
    c.gather.new.reader c.args.writer.now c.write_window.new.writer c.args.marks.now.items c.gather.new.marks.items
    c.args.turns c.gather.result c.in_default.ensures.ok c.in_default.ensures.failures c.gather.ensures.gathers
