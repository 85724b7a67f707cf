-- What the code's values hold. No public clause cites this.
use Rattle.air_jobs.specs.declared.air_job.AirJob.{AirJob}
use Rattle.air_jobs.specs.declared.answering.Asked.{Asked}

-- What a job asks for.
abbrev pub asked_of : AirJob → Asked
asked_of job = record { form = job.form; store = job.store; groups = job.groups }
