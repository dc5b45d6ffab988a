use borrow.Author.Rules.{rules}
use Rattle.scan.proofs.Parts.{no_text, some_text}
use Rattle.writing.proofs.Writes.{◌then◌, puts_none}
use Rattle.answer.proofs.puts.put_cseq.Goals as goal

pub returns-then-is_empty : goal.returns-then-is_empty
returns-then-is_empty c = rw (← c.part-digits.ensures, no_text c.part-digits.result.now (search rules)) (puts_none _)

pub returns : goal.returns
returns c = rw (← c.part-digits.ensures, some_text c.part-digits.result.now (search rules)) (c.text.ensures then c.text-2.ensures then c.text-3.ensures)
