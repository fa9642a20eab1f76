use Rattle.record_forms.proofs.Steps.{record_whole}
use Rattle.record_forms.proofs.put_record.Goals as goal

pub returns : goal.returns
returns c = record_whole c.args.kind c.args.numbers.now c.args.out.now c.args.at c.byte_of.result c.put_byte-a.new.out c.put_byte-a.result (c.put_body.new.out, c.put_body.result) c.byte_of.ensures c.put_byte-a.ensures c.put_body.ensures
