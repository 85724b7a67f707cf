use Rattle.std.proofs.Common.{ap}
use Rattle.uecp_link.specs.Once.{Submit, FrameComes, ReplyComes, NoiseToEncoder, NoiseToServer, EncoderRestart}
use Rattle.uecp_link.specs.Once.{ServerRestart}
use Rattle.uecp_link.specs.Events.{event_of, lost_of}
use Rattle.uecp_link.proofs.Stepping.{steps_from, steps_one, refused_from, address_from, loss_fits}
use Rattle.uecp_link.proofs.line.Line.step.Goals as goal

pub returns-in-Submit-clause-steps : goal.returns-in-Submit-clause-steps
returns-in-Submit-clause-steps g c = steps_from g.T.Target.step g.T.Target.taken c.args.self.now c.submit.new.self
    c.args.event.now (Submit c.in-Submit.message.now) (ap event_of c.in-Submit.is) c.submit.ensures.fits c.submit.result
    c.submit.ensures.goes

pub returns-in-Submit-clause-refused : goal.returns-in-Submit-clause-refused
returns-in-Submit-clause-refused g c = refused_from g.T.Target.step g.T.Target.taken c.args.self.now c.submit.new.self
    c.args.event.now (Submit c.in-Submit.message.now) (ap event_of c.in-Submit.is) c.submit.ensures.fits c.submit.result
    c.submit.ensures.stops

pub returns-in-Frame-clause-steps : goal.returns-in-Frame-clause-steps
returns-in-Frame-clause-steps g c = steps_from g.T.Target.step g.T.Target.taken c.args.self.now c.deliver.new.self
    c.args.event.now (FrameComes c.in-Frame.number) (ap event_of c.in-Frame.is) tt c.deliver.result
    c.deliver.ensures.goes

pub returns-in-Frame-clause-address : goal.returns-in-Frame-clause-address
returns-in-Frame-clause-address g c = address_from g.T.Target.step g.T.Target.taken c.args.self.now c.deliver.new.self
    (FrameComes c.in-Frame.number) c.deliver.result c.deliver.ensures.goes c.deliver.ensures.stops

pub returns-in-Reply-clause-steps : goal.returns-in-Reply-clause-steps
returns-in-Reply-clause-steps g c = steps_from g.T.Target.step g.T.Target.taken c.args.self.now c.acknowledge.new.self
    c.args.event.now (ReplyComes c.in-Reply.number) (ap event_of c.in-Reply.is) tt c.acknowledge.result
    c.acknowledge.ensures.goes

pub returns-in-NoiseToEncoder-clause-steps : goal.returns-in-NoiseToEncoder-clause-steps
returns-in-NoiseToEncoder-clause-steps g c = steps_from g.T.Target.step g.T.Target.taken c.args.self.now
    c.disturb_encoder.new.self c.args.event.now (NoiseToEncoder c.in-NoiseToEncoder.noise.now)
    (ap event_of c.in-NoiseToEncoder.is) tt c.disturb_encoder.result c.disturb_encoder.ensures.goes

pub returns-in-NoiseToEncoder-clause-refused : goal.returns-in-NoiseToEncoder-clause-refused
returns-in-NoiseToEncoder-clause-refused g c = refused_from g.T.Target.step g.T.Target.taken c.args.self.now
    c.disturb_encoder.new.self c.args.event.now (NoiseToEncoder c.in-NoiseToEncoder.noise.now)
    (ap event_of c.in-NoiseToEncoder.is) tt c.disturb_encoder.result c.disturb_encoder.ensures.stops

pub returns-in-NoiseToEncoder-clause-address : goal.returns-in-NoiseToEncoder-clause-address
returns-in-NoiseToEncoder-clause-address g c = address_from g.T.Target.step g.T.Target.taken c.args.self.now
    c.disturb_encoder.new.self (NoiseToEncoder c.in-NoiseToEncoder.noise.now) c.disturb_encoder.result
    c.disturb_encoder.ensures.goes c.disturb_encoder.ensures.stops

pub returns-in-NoiseToServer-clause-steps : goal.returns-in-NoiseToServer-clause-steps
returns-in-NoiseToServer-clause-steps g c = steps_from g.T.Target.step g.T.Target.taken c.args.self.now
    c.disturb_server.new.self c.args.event.now (NoiseToServer c.in-NoiseToServer.noise.now)
    (ap event_of c.in-NoiseToServer.is) tt c.disturb_server.result c.disturb_server.ensures.goes

pub returns-in-NoiseToServer-clause-refused : goal.returns-in-NoiseToServer-clause-refused
returns-in-NoiseToServer-clause-refused g c = refused_from g.T.Target.step g.T.Target.taken c.args.self.now
    c.disturb_server.new.self c.args.event.now (NoiseToServer c.in-NoiseToServer.noise.now)
    (ap event_of c.in-NoiseToServer.is) tt c.disturb_server.result c.disturb_server.ensures.stops

pub returns-in-LineLost-clause-steps : goal.returns-in-LineLost-clause-steps
returns-in-LineLost-clause-steps g c = steps_one g.T.Target.step g.T.Target.taken c.args.self.now c.lose.new.self
    c.args.event.now (lost_of c.in-LineLost.side) (ap event_of c.in-LineLost.is) (loss_fits c.in-LineLost.side)
    c.lose.result c.lose.ensures

pub returns-in-EncoderRestart-clause-steps : goal.returns-in-EncoderRestart-clause-steps
returns-in-EncoderRestart-clause-steps g c = steps_one g.T.Target.step g.T.Target.taken c.args.self.now
    c.resume_encoder.new.self c.args.event.now EncoderRestart (ap event_of c.in-EncoderRestart.is) tt
    c.resume_encoder.result c.resume_encoder.ensures

pub returns-in-ServerRestart-clause-steps : goal.returns-in-ServerRestart-clause-steps
returns-in-ServerRestart-clause-steps g c = steps_one g.T.Target.step g.T.Target.taken c.args.self.now
    c.resume_server.new.self c.args.event.now ServerRestart (ap event_of c.in-ServerRestart.is) tt
    c.resume_server.result c.resume_server.ensures
