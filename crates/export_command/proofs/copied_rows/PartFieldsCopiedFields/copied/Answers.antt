use Rattle.export_command.proofs.copied_rows.PartFieldsCopiedFields.copied.Goals as goal

pub returns : goal.returns
returns c = λ i. record {
  key = c.args.self.now.key;
  name = c.in_ok-copied_text.ensures i;
  manufacturer = c.in_ok-copied_text-2.ensures i;
  category = c.in_ok-copied_text-3.ensures i;
  brand = c.in_ok-copied_text-4.ensures i;
  color = c.in_ok-copied_text-5.ensures i;
  part_type = c.in_ok-copied_text-6.ensures i;
  size = c.in_ok-copied_text-7.ensures i;
  container = c.in_ok-copied_text-8.ensures i;
}
