use Rattle.rv_elf.proofs.Imaging.{cause_from_answer, image_from_answer}
use Rattle.rv_elf.proofs.loading.load_elf.Goals as goal

pub returns-clause-image : goal.returns-clause-image
returns-clause-image c = image_from_answer c.args.file.now c.args.pages c.load_file.result c.load_file.ensures

pub returns-clause-refused : goal.returns-clause-refused
returns-clause-refused c = cause_from_answer c.args.file.now c.args.pages c.load_file.result c.load_file.ensures
