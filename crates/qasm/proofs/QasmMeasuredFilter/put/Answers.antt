use Rattle.std.proofs.Common.{arith}
use Rattle.text_puts.specs.Puts.{puts-joined, puts-within}
use Rattle.qasm_file.specs.File.{file_texts}
use Rattle.qasm.proofs.QasmMeasuredFilter.put.Goals as goal

pub returns-clause-within : goal.returns-clause-within
returns-clause-within c = puts-within c.args.out.now (file_texts c.args.bytes.now) c.put_file.new.out c.put_file.result 524335 (let e = c.requires in omega arith) c.put_file.ensures

pub returns-clause-is : goal.returns-clause-is
returns-clause-is c = puts-joined c.args.out.now (file_texts c.args.bytes.now) c.put_file.new.out c.put_file.result 524335 (let e = c.requires in omega arith) c.put_file.ensures
