use Rattle.sys_text.proofs.ElfBlocks.{elf_block_loads}
use Rattle.sys_text.proofs.reading.elf_blocks_load.Goals as goal

pub returns : goal.returns
returns c = elf_block_loads
