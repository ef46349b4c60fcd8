mod LowestLaws
