use Rattle.std.proofs.Common.{arith}
use Rattle.text_puts.specs.Puts.{puts-joined, puts-within}
use Rattle.qasm_file.specs.File.{back_texts}
use Rattle.unqasm.proofs.UnqasmMeasuredFilter.put.Goals as goal

pub returns-clause-within : goal.returns-clause-within
returns-clause-within c = puts-within c.args.out.now (back_texts c.args.bytes.now) c.put_back.new.out c.put_back.result 65537 (let e = c.requires in omega arith) c.put_back.ensures

pub returns-clause-is : goal.returns-clause-is
returns-clause-is c = puts-joined c.args.out.now (back_texts c.args.bytes.now) c.put_back.new.out c.put_back.result 65537 (let e = c.requires in omega arith) c.put_back.ensures
