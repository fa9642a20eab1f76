use Rattle.std.proofs.Common.{arith}
use Rattle.text_puts.specs.Puts.{puts-joined, puts-within}
use Rattle.job_words.specs.Rows.{job_texts}
use Rattle.job.proofs.JobMeasuredFilter.put.Goals as goal

pub returns-clause-within : goal.returns-clause-within
returns-clause-within c = puts-within c.args.out.now (job_texts c.args.bytes.now) c.put.new.out c.put.result 65536 (let e = c.requires in omega arith) c.put.ensures

pub returns-clause-is : goal.returns-clause-is
returns-clause-is c = puts-joined c.args.out.now (job_texts c.args.bytes.now) c.put.new.out c.put.result 65536 (let e = c.requires in omega arith) c.put.ensures
